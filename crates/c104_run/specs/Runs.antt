-- Runs: events that were done, and what the traces of the nodes tell of them.
use Rattle.{c104_event.specs.declared.{events.Event.Event, faults.EventFault.EventFault}, c104_node.specs.{Nodes.Node, Traces.Deed}}
use Rattle.{c104_node.specs.declared.{acts.Entry.Entry, stamps.Stamp.Stamp}, c104_plan.specs.Plans.Plan}
use Rattle.c104_run.specs.{EventDeeds.event_deeds, EventPlaces.event_place, Network.{Network, network_apply, network_of}}
use Rattle.{c104_switch.specs.Actions.{Reply, is_ready}, c104_token.specs.Kinds.Kind}
use Rattle.std.specs.{Option.option_map, Prelude.{List, Ok, Result, [], if◌then◌else◌, length, nat_eq, slice_get, suc, true, ℕ, ◌++◌, ◌<◌}}
use Rattle.std.specs.Prelude.{◌∷◌, ◌≡◌, ◌⊎◌}

-- a run of events from one network to another: each was done, and answered so
abbrev pub IsDoneRun : {A : Type 0} → Kind A → Network A → List (Event × Reply) → Network A → Type 0
IsDoneRun {A} kind net [] ended = ended ≡ net
IsDoneRun {A} kind net (e ∷ events) ended =
    (next : Network A)
    × (◌≡◌ {A = Result Reply EventFault × Network A} (Ok e.1, next) (network_apply kind net e.0))
    × (is_ready e.1 ≡ true)
    × IsDoneRun kind next events ended

-- the entries of such a run, in order. Its events are numbered from this one on, and each number has its stamp.
abbrev pub run_deeds : Plan → (ℕ → Stamp) → ℕ → List (Event × Reply) → List Deed
run_deeds plan stamps n [] = []
run_deeds plan stamps n (e ∷ events) =
    event_deeds plan (stamps n) e.0 e.1 ++ run_deeds plan stamps (suc n) events

-- the entries of the node at a place, in order
abbrev pub at_node : ℕ → List Deed → List Entry
at_node k [] = []
at_node k (d ∷ deeds) = if nat_eq d.0 k then d.1 ∷ at_node k deeds else at_node k deeds

-- an event of this ticket, led at this place, stands before another: by ticket, and then by place
abbrev pub IsBefore : ℕ → ℕ → ℕ → ℕ → Type 0
IsBefore ticket place later there = (ticket < later) ⊎ ((ticket ≡ later) × (place < there))

-- each of some events stands behind one of this ticket and place. They are numbered from this number on.
abbrev pub AreBehind : Plan → (ℕ → Stamp) → ℕ → ℕ → ℕ → List (Event × Reply) → Type 0
AreBehind plan stamps ticket place n [] = Unit {0}
AreBehind plan stamps ticket place n (e ∷ events) =
    IsBefore ticket place (stamps n).ticket (event_place plan e.0)
    × AreBehind plan stamps ticket place (suc n) events

-- the events of a run stand in the order of their tickets, and of their leading places where two have one ticket
abbrev pub AreInOrder : Plan → (ℕ → Stamp) → ℕ → List (Event × Reply) → Type 0
AreInOrder plan stamps n [] = Unit {0}
AreInOrder plan stamps n (e ∷ events) =
    AreBehind plan stamps (stamps n).ticket (event_place plan e.0) (suc n) events
    × AreInOrder plan stamps (suc n) events

-- what traces tell of a run from a start: its events, which the count counts, were done, each with the stamp of its
-- number, in the order of their tickets, and led from the start to these nodes; and the trace of each node is its part
-- of their entries
pub record IsRunRecord {A : Type 0} (kind : Kind A) (plan : Plan) (stamps : ℕ → Stamp) (start nodes : List (Node A))
    (traces : List (List Entry)) (count : ℕ) (events : List (Event × Reply)) : Type 0 where
  pub run : IsDoneRun kind (network_of plan start) events (network_of plan nodes)
  pub told : (k : ℕ) → slice_get traces k ≡ option_map (λ n. at_node k (run_deeds plan stamps 0 events)) (slice_get start k)
  pub counted : count ≡ length events
  pub ordered : AreInOrder plan stamps 0 events
