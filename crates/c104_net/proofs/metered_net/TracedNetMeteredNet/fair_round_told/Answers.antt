use Rattle.{c104_net.proofs.MeteredRecords.fair_told, c104_plan.specs.Plans.IsPlan, c104_run.specs.FairRounds.fair_round}
use Rattle.std.proofs.Common.{subst}

pub returns : Rattle.c104_net.proofs.metered_net.TracedNetMeteredNet.fair_round_told.Goals.returns
returns g c =
    fair_told g.M.Meter.sees c.args.self.now c.fair_round_metered.new.self c.args.meter.now c.fair_round_metered.new.meter (subst IsPlan c.told_plan-plan.ensures.plan c.switches-switches.ensures.kept) c.told_plan-plan.ensures.told
    c.args.turns.now c.fair_round_metered.new.turns (fair_round c.args.words c.args.turns.now c.args.self.now.network.plan) c.fair_round_metered.result c.fair_round_metered.ensures.recorded c.fair_round_metered.ensures.metered
