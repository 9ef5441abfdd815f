-- The events of a run, as the traces of its nodes tell them: by ticket, and those of one ticket by the places of the
-- nodes that lead in them.
use Rattle.{c104_event.specs.declared.events.Event.Event, c104_net.specs.{Leading.led_events, Merges.by_ticket}}
use Rattle.{c104_node.specs.declared.acts.Entry.Entry, c104_plan.specs.Plans.Plan}
use Rattle.std.specs.Prelude.{List, [], length, map, suc, ℕ, ◌++◌, ◌∷◌}

-- the events that traces tell, with their tickets, one trace after the other, by the number of switches and the place
-- of the first trace
abbrev pub told_by : ℕ → ℕ → List (List Entry) → List (ℕ × Event)
told_by switches k [] = []
told_by switches k (trace ∷ traces) = led_events switches k trace ++ told_by switches (suc k) traces

-- the event alone, without its ticket
abbrev pub told_event : ℕ × Event → Event
told_event e = e.1

-- what the traces of a run tell: its events, by ticket and then by the place of the trace that tells each
unfoldable pub told_events : Plan → List (List Entry) → List Event
told_events plan traces = map told_event (by_ticket (told_by (length plan.switches) 0 traces))
