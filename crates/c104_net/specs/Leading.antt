-- The events of a run, as the entries of its nodes tell them. Each event that was done is told by one entry, which
-- leads: its only one, or, of the two at the ends of a wire, that where the token or the credits went out.
use Rattle.{c104_event.specs.declared.events.Event.Event, c104_node.specs.declared.{acts.{ActOf.ActOf, Entry.Entry}, stamps.Stamp.Stamp}}
use Rattle.{c104_plan.specs.Plans.Plan, c104_run.specs.{EventActs.act_event, EventPlaces.event_place}, c104_switch.specs.Actions.Reply}
use Rattle.c104_token.specs.declared.tokens.Token.{Token}
use Rattle.std.specs.Prelude.{Bool, List, None, Option, Some, [], if◌then◌else◌, is_some, nat_eq, suc, ℕ, ◌∷◌}

-- whether an act leads in its event
abbrev pub leads : ActOf Token → Bool
leads a = is_some (act_event 0 0 a)

-- an event that is told, and its ticket, before others
abbrev pub told_first : ℕ → Option Event → List (ℕ × Event) → List (ℕ × Event)
told_first ticket None events = events
told_first ticket (Some e) events = (ticket, e) ∷ events

-- the events that entries of the node at a place lead in, in order, with their tickets
abbrev pub led_events : ℕ → ℕ → List Entry → List (ℕ × Event)
led_events switches k [] = []
led_events switches k (e ∷ entries) = told_first e.ticket (act_event switches k e.act) (led_events switches k entries)

-- those of numbered events that the node at a place leads in, with their tickets; the first has this number
abbrev pub events_at : Plan → (ℕ → Stamp) → ℕ → ℕ → List (Event × Reply) → List (ℕ × Event)
events_at plan stamps k n [] = []
events_at plan stamps k n (e ∷ events) =
    if nat_eq (event_place plan e.0) k
    then ((stamps n).ticket, e.0) ∷ events_at plan stamps k (suc n) events
    else events_at plan stamps k (suc n) events
