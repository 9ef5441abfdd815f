-- Calls: what a seat keeps of each event that was done through it.
use Rattle.{c104_event.specs.declared.{calls.Call.Call, events.Event.Event}, c104_switch.specs.Actions.Reply}
use Rattle.std.specs.Prelude.{List, map, ℕ}

-- the tickets of calls, in order
abbrev pub call_ticket : Call → ℕ
call_ticket c = c.ticket

abbrev pub tickets_of : List Call → List ℕ
tickets_of calls = map call_ticket calls

-- a call of an event that drew this ticket and was answered so
abbrev pub call_of : Event → ℕ → Reply → Call
call_of e ticket r = record { ticket = ticket; event = e; reply = r }
