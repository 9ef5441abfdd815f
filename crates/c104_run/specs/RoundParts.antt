-- Parts of a round: how a run of some events ends that tells whether any of them was done.
use Rattle.{c104_event.specs.declared.{events.Event.Event, faults.EventFault.EventFault}, c104_node.specs.PortParts.IsNearReady}
use Rattle.c104_node.specs.declared.{crossings.Crossing.{Crossing, TheVariants.{Grant, Token}}, port_part.PortPart.PortPart}
use Rattle.{c104_node.specs.declared.port_part.PortPart.TheVariants.{Credit, Cross, Turn}, c104_plan.specs.Plans.Plan}
use Rattle.{c104_plan.specs.declared.ports.Port.Port, c104_run.specs.{EventActs.port_place, EventRuns.{EventsEnd, run_events}}}
use Rattle.c104_run.specs.{Network.{Network, network_apply, wired_fault}, Rounds.{is_wired, link_numbers, turn_at}}
use Rattle.{c104_switch.specs.{Actions.{Reply, is_ready}, declared.actions.ReplyOf.ReplyOf}, c104_token.specs.Kinds.Kind}
use Rattle.std.specs.{List.{flat_map, range_with_len}, Prelude.{Bool, Err, IfSome, List, None, Ok, Option, Result, [], false, filter}}
use Rattle.std.specs.Prelude.{length, true, unwrap_or, ℕ, ◌++◌, ◌<◌, ◌∷◌, ◌≡◌, ◌≤◌}
use Rattle.c104_event.specs.declared.events.Event.TheVariants as event

-- whether an event was done, by its answer, or its fault
abbrev pub done_answer : Result Reply EventFault → Result Bool EventFault
done_answer (Ok r) = Ok (is_ready r)
done_answer (Err f) = Err f

module _ {S : Type 0} (apply : S → Event → Result Reply EventFault × S) where
  -- how a part ends: as the run of its events, and where it tells that none was done nothing has changed; or as a run
  -- that a fault stops
  abbrev pub Ending : S → List Event → Result Bool EventFault → S → Type 0
  Ending s events (Ok changed) after =
      (run_events apply s events ≡ (Ok tt, after)) × (changed ≡ false → after ≡ s)
  Ending s events (Err f) after = EventsEnd apply s events (Err f) after

  pub record PartEnds (s : S) (events : List Event) (result : Result Bool EventFault) (after : S) : Type 0 where
    pub ends : Ending s events result after

module _ {A : Type 0} (kind : Kind A) (net : Network A) where
  -- each of some events is answered with NotReady, and changes nothing
  abbrev pub EachIdle : List Event → Type 0
  EachIdle [] = Unit {0}
  EachIdle (e ∷ events) = (network_apply kind net e ≡ (Ok ReplyOf.NotReady, net)) × EachIdle events

  pub record AreIdle (events : List Event) : Type 0 where
    pub each : EachIdle events

-- what a part has for a port
abbrev pub port_events : PortPart → Port → List Event
port_events Credit p = event.Credit p ∷ []
port_events Cross p = event.Cross p ∷ []
port_events Turn p = turn_at p

-- the part in which this crosses
abbrev pub crossing_part : Crossing → PortPart
crossing_part Token = Cross
crossing_part Grant = Credit

-- the same for a port that may have no wire
abbrev pub wired_events : Plan → PortPart → Port → List Event
wired_events plan part p = flat_map (port_events part) (filter (is_wired plan) (p ∷ []))

-- the parts of a round as they are walked, number by number: of each of some numbered ports; of a switch, link by link; and
-- of all switches, and of all terminals
module _ (plan : Plan) (part : PortPart) where
  abbrev pub port_walk : (ℕ → Port) → ℕ → List Event
  port_walk f n = wired_events plan part (f n)

  abbrev pub link_walk : ℕ → List Event
  link_walk s = flat_map (port_walk (Port.Switch s)) link_numbers

  abbrev pub switch_walk : List Event
  switch_walk = flat_map link_walk (range_with_len 0 (length plan.switches))

  abbrev pub terminal_walk : List Event
  terminal_walk = flat_map (port_walk Port.Terminal) (range_with_len 0 (length plan.terminals))

-- the claims of an input, of a switch and of all
abbrev pub output_walk : ℕ → ℕ → List Event
output_walk s i = flat_map (λ o. Event.Claim s i o ∷ []) link_numbers

abbrev pub input_walk : ℕ → List Event
input_walk s = flat_map (output_walk s) link_numbers

abbrev pub claim_walk : Plan → List Event
claim_walk plan = flat_map input_walk (range_with_len 0 (length plan.switches))

-- the arrivals
abbrev pub drain_walk : Plan → List Event
drain_walk plan = flat_map (λ t. Event.Drain t ∷ []) (range_with_len 0 (length plan.terminals))

-- a round as it is walked
abbrev pub walked_round : Plan → List Event
walked_round plan =
    (switch_walk plan Credit ++ terminal_walk plan Credit)
    ++ (switch_walk plan Cross ++ terminal_walk plan Cross)
    ++ switch_walk plan Turn ++ claim_walk plan ++ drain_walk plan

-- where a walk over n numbers goes on, from one of them: what is passed over does nothing
pub record IsNext {A : Type 0} (kind : Kind A) (net : Network A) (part : ℕ → List Event) (numbers : List ℕ) (n from : ℕ)
    (next : Option ℕ) : Type 0 where
  pub turn : numbers ≡ range_with_len 0 n
  pub passed : (k : ℕ) → from ≤ k → k < unwrap_or next n → AreIdle kind net (part k)
  pub found : IfSome next (λ k. (from ≤ k) × (k < n))

-- an event of a part may be tried at a port: it is wired, and the near end is ready; of a turn, it may be
pub record CanTry {A : Type 0} (kind : Kind A) (net : Network A) (part : PortPart) (p : Port) : Type 0 where
  pub wired : wired_fault net.plan p ≡ None
  pub linked : is_wired net.plan p ≡ true
  pub ready : IsNearReady kind part net.nodes (port_place net.plan p) p
