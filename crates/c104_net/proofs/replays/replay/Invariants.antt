use Rattle.{c104_net.specs.{Replays.{TellsOn, lead_event}, ToldEvents.told_event}, std.proofs.Common.{map, take}}

-- the events so far are told after those before
abbrev pub invariant-loop-lead : Rattle.c104_net.proofs.replays.replay.Given.invariant-loop-lead
invariant-loop-lead l = TellsOn l.initial.net (map told_event (map (lead_event l.switches l.traces) (take l.lead-index l.leads))) l.net
