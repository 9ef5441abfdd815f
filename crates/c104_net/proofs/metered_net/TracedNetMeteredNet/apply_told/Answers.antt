use Rattle.{c104_net.proofs.MeteredRecords.event_told, c104_plan.specs.Plans.IsPlan, std.proofs.Common.subst}

pub returns : Rattle.c104_net.proofs.metered_net.TracedNetMeteredNet.apply_told.Goals.returns
returns g c =
    event_told g.M.Meter.sees c.args.self.now c.apply_metered.new.self c.args.meter.now c.apply_metered.new.meter (subst IsPlan c.told_plan-plan.ensures.plan c.switches-switches.ensures.kept) c.told_plan-plan.ensures.told
    c.args.event.now c.apply_metered.result c.apply_metered.ensures.recorded.starts c.apply_metered.ensures.metered
