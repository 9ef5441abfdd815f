use Rattle.{c104_net.proofs.ReplayedRuns.event_again, c104_plan.specs.Plans.IsPlan, std.proofs.Common.subst}

pub returns-in_default-reply : Rattle.c104_net.proofs.replays.replay_event.Goals.returns-in_default-reply
returns-in_default-reply c =
    event_again c.args.net.now c.apply.new.self (subst IsPlan c.told_plan-plan.ensures.plan c.switches-switches.ensures.kept) c.told_plan-plan.ensures.told
    c.args.event.now c.in-Ok.reply c.in_default-reply.not-NotReady c.in-Ok.ensures.recorded
