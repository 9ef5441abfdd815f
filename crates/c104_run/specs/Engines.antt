-- The engine of a network as a value: what it has of the network when it runs, and the network and the stage that this shows.
use Rattle.{c104_event.specs.declared.{events.Event.Event, faults.EventFault.EventFault}, c104_node.specs.Places.{Shown, bases, states}}
use Rattle.{c104_plan.specs.Plans.Plan, c104_run.specs.{FairRounds.{SwitchTurns, fairly, in_turn}, KnownWires.KnowWires}}
use Rattle.c104_run.specs.{LivePlaces.AreLive, Meters.{Metered, Sees, metered_apply, metered_of}, NetRecords.{NetRecord, is_done}}
use Rattle.c104_run.specs.{Network.{Network, network_of}, RecordedNets.{Reading, places_record}, RoundParts.PartEnds}
use Rattle.c104_token.specs.Kinds.{Kind}
use Rattle.std.specs.Prelude.{Bool, IfOk, List, Result, map, ℕ, ◌≡◌}

-- an engine: its plan, the places of its nodes, and how many events were done
pub record EngineView (P : Type 0) : Type 0 where
  pub plan : Plan
  -- the switches in order, and then the terminals
  pub places : List P
  pub count : ℕ

abbrev pub engine_of : {P : Type 0} → Plan → List P → ℕ → EngineView P
engine_of plan places count = record { plan = plan; places = places; count = count }

module _ {A P : Type 0} (shown : P → Shown A) where
  -- the network that it shows
  abbrev pub engine_network : EngineView P → Network A
  engine_network e = network_of e.plan (states (map shown e.places))

  -- the stage of a run that it is at, with a meter
  abbrev pub engine_at : {M : Type 0} → EngineView P → M → Metered A M
  engine_at e m = metered_of e.plan (map shown e.places) e.count m

-- the network with its record that it shows
abbrev pub engine_record : {A P : Type 0} → Reading A P → EngineView P → NetRecord
engine_record v e = places_record v e.plan e.places e.count

-- what every engine keeps: its places know the wires of its plan, and those at which something may begin are in a set
pub record IsEngine {A P : Type 0} (kind : Kind A) (shown : P → Shown A) (blocks : List ℕ) (e : EngineView P) : Type 0 where
  pub knows : KnowWires e.plan (bases (map shown e.places))
  pub live : AreLive kind e.plan blocks (states (map shown e.places))

-- an engine before and after a part of a round, which every plan has, and of whose events a meter is told: it goes on by
-- them, and its plan stays
pub record DoesPart {A M P : Type 0} (kind : Kind A) (keeps : Bool) (sees : Sees M A) (shown : P → Shown A)
    (old : EngineView P) (m : M) (part : Plan → List Event) (result : Result Bool EventFault) (new : EngineView P) (n : M) : Type 0 where
  pub plan : new.plan ≡ old.plan
  pub ends : PartEnds (metered_apply kind keeps sees) (engine_at shown old m) (part old.plan) result (engine_at shown new n)

-- the same of a part of a fair round, with the turns before and after it
pub record DoesFairly {A M P : Type 0} (kind : Kind A) (keeps : Bool) (sees : Sees M A) (shown : P → Shown A)
    (old : EngineView P) (m : M) (turns : List SwitchTurns) (part : Plan → List Event) (result : Result Bool EventFault)
    (new : EngineView P) (n : M) (left : List SwitchTurns) : Type 0 where
  pub plan : new.plan ≡ old.plan
  pub ends : PartEnds (fairly (metered_apply kind keeps sees)) (in_turn (engine_at shown old m) turns) (part old.plan) result
      (in_turn (engine_at shown new n) left)

-- the answer of a part that is one event tells whether that was done
abbrev pub TellsDone : {A M P : Type 0} → Kind A → Bool → Sees M A → (P → Shown A) → EngineView P → M → Event → Result Bool EventFault → Type 0
TellsDone kind keeps sees shown old m e result =
    IfOk result (λ done. is_done (metered_apply kind keeps sees (engine_at shown old m) e).0 ≡ done)
