-- An event that isn't done leaves no entries.
use Rattle.{c104_event.specs.declared.{events.Event.Event, faults.EventFault.EventFault}, c104_node.specs.Traces.kept_of}
use Rattle.{c104_node.specs.declared.stamps.Stamp.Stamp, c104_plan.specs.Plans.Plan, c104_run.specs.EventDeeds.event_deeds}
use Rattle.{c104_run.specs.NetRecords.is_done, c104_switch.specs.{Actions.Reply, declared.actions.ReplyOf.ReplyOf}}
use Rattle.std.proofs.Common.{Result, [], arith, false, ◌≡◌}

-- an event that isn't done leaves no entries
unready_deeds : (plan : Plan) (stamp : Stamp) (e : Event) → event_deeds plan stamp e ReplyOf.NotReady ≡ []
unready_deeds plan stamp e = search arith

pub undone_deeds : (plan : Plan) (stamp : Stamp) (e : Event) (answer : Result Reply EventFault) → is_done answer ≡ false → kept_of (event_deeds plan stamp e) answer ≡ []
undone_deeds plan stamp e answer undone = search (arith, unready_deeds)
