use Rattle.{c104_net.proofs.MeteredRecords.part_told, c104_plan.specs.Plans.IsPlan, c104_run.specs.HandedWords.round_with}
use Rattle.std.proofs.Common.{subst}

pub returns : Rattle.c104_net.proofs.metered_net.TracedNetMeteredNet.round_told.Goals.returns
returns g c =
    part_told g.M.Meter.sees c.args.self.now c.round_metered.new.self c.args.meter.now c.round_metered.new.meter (subst IsPlan c.told_plan-plan.ensures.plan c.switches-switches.ensures.kept) c.told_plan-plan.ensures.told
    (round_with c.args.words c.args.self.now.network.plan) c.round_metered.result c.round_metered.ensures.recorded c.round_metered.ensures.metered
