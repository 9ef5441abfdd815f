use Rattle.c104_storm.proofs.{MovingStorms.{never_stands_still, of_links}, StormEnds.nothing_stormed, StormPackets.packets_written}
use Rattle.c104_stream.{proofs.ScriptEnds.err_is, specs.declared.halt.Halt.Halt}
use Rattle.c104_storm.proofs.storms.storm_plan.Goals as goal

pub returns-in_err-sending : goal.returns-in_err-sending
returns-in_err-sending g c = record {
  storms = rw (err_is _ Halt.NoMemory c.from_residual.ensures) (nothing_stormed _ _ _ _ _);
  packets = packets_written _ c.args.plan.now c.args.image c.switches-switches.ensures.kept c.requires.fits;
  moving = never_stands_still _ c.args.plan.now c.args.image c.switches-switches.ensures.kept c.requires.fits
      (of_links c.args.image c.switches-settings.ensures.all);
}

pub returns : goal.returns
returns g c = record {
  storms = c.storm_script.ensures c.args.plan.now c.args.image c.in_ok-sending.ensures;
  packets = packets_written _ c.args.plan.now c.args.image c.switches-switches.ensures.kept c.requires.fits;
  moving = never_stands_still _ c.args.plan.now c.args.image c.switches-switches.ensures.kept c.requires.fits
      (of_links c.args.image c.switches-settings.ensures.all);
}
