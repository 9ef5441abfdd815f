-- The log of all that was done through the seats of a fabric: what nodes and seats keep of it.
use Rattle.{c104_event.specs.declared.{calls.Call.Call, events.Event.Event}, c104_node.specs.{PortActs.Acts, Traces.seatless}}
use Rattle.{c104_node.specs.declared.{acts.Entry.Entry, stamps.Stamp.Stamp}, c104_plan.specs.Plans.Plan}
use Rattle.c104_run.specs.{EventActs.{event_acts, port_place}, EventDeeds.event_deeds, Network.event_fault, Runs.at_node}
use Rattle.{c104_switch.specs.Actions.{Reply, is_ready}, c104_tickets.specs.declared.views.{Deed.Deed, Done.Done}}
use Rattle.{c104_token.specs.declared.tokens.Token.Token, c104_turns.specs.Calls.{done_call, is_own}}
use Rattle.std.specs.Prelude.{Bool, List, None, Option, Some, [], false, if◌then◌else◌, nat_eq, nat_lt, slice_get, true, ℕ, ◌++◌, ◌-◌, ◌∷◌}
use Rattle.std.specs.Prelude.{◌≡◌}

-- the stamp of what was done through a seat
abbrev pub done_stamp : Done → Stamp
done_stamp d = record { ticket = d.ticket; seat = Some d.deed.seat }

-- the event with its reply
abbrev pub done_pair : Done → Event × Reply
done_pair d = (d.deed.event, d.deed.reply)

-- the places of the nodes of some acts: the one that leads, and the other
abbrev pub near_place : Plan → Acts Token → ℕ
near_place plan (Acts.Alone k a) = k
near_place plan (Acts.Joint p q crossing) = port_place plan p

abbrev pub far_place : Plan → Acts Token → Option ℕ
far_place plan (Acts.Alone k a) = None
far_place plan (Acts.Joint p q crossing) = Some (port_place plan q)

-- what the node at a place keeps of what was done
abbrev pub entries_at : Plan → ℕ → Done → List Entry
entries_at plan k d = at_node k (event_deeds plan (done_stamp d) d.deed.event d.deed.reply)

abbrev pub entries_of : Plan → ℕ → List Done → List Entry
entries_of plan k [] = []
entries_of plan k (d ∷ ds) = entries_at plan k d ++ entries_of plan k ds

-- a deed was done on the fabric's own nodes: its event can happen, and it stands at the places of its event's nodes
pub record IsDoneHere (plan : Plan) (d : Done) : Type 0 where
  pub acts : Acts Token
  pub asked : event_acts plan d.deed.event ≡ Some acts
  pub possible : event_fault plan d.deed.event ≡ None
  pub near : d.deed.near ≡ Some (near_place plan acts)
  pub far : d.deed.far ≡ far_place plan acts
  pub ready : is_ready d.deed.reply ≡ true

-- what of a log was done on the fabric's own nodes

abbrev pub kept_own : Bool → Done → List Done → List Done
kept_own true d rest = d ∷ rest
kept_own false d rest = rest

abbrev pub own_of : List Done → List Done
own_of [] = []
own_of (d ∷ ds) = kept_own (is_own d) d (own_of ds)

-- the calls of a seat among what was done
abbrev pub call_if : Bool → Done → List Call → List Call
call_if true d calls = done_call d ∷ calls
call_if false d calls = calls

abbrev pub calls_in : ℕ → List Done → List Call
calls_in s [] = []
calls_in s (d ∷ ds) = call_if (nat_eq d.deed.seat s) d (calls_in s ds)

-- the stamps of a run's events: those that had been done before have their numbers for tickets and no seat, and behind them
-- stands what was done through seats
abbrev pub stamp_or : ℕ → Option Done → Stamp
stamp_or n None = seatless n
stamp_or n (Some d) = done_stamp d

abbrev pub log_stamps : ℕ → List Done → ℕ → Stamp
log_stamps count ds n = if nat_lt n count then seatless n else stamp_or n (slice_get ds (n - count))
