-- Ports of a shared network: what a worker does through them, of a node that it has locked and of each of its nodes.
use Rattle.{c104_event.specs.declared.{events.Event.Event, faults.EventFault.EventFault}, c104_lean.specs.Nodes.HeldView}
use Rattle.{c104_lean.specs.Working.{HasCalls, HasWorked, IsPartEvent, IsStop}, c104_node.specs.Tagged.tagged_kind}
use Rattle.{c104_plan.specs.Plans.Plan, c104_run.specs.Network.event_fault, c104_turns.specs.{Calls.SeatView, Parts.IsOfKind}}
use Rattle.c104_turns.specs.{Parts.ready_numbers, SeatGrowth.FaultsAs, Turns.End, Working.PartView, declared.parts.Stage.Stage}
use Rattle.c104_turns.specs.declared.turns.Worker.{Worker}
use Rattle.std.specs.Prelude.{All, Bool, Err, IfErr, List, Result, ℕ, ◌≡◌}

-- what is listed for a stage of a part: the events that a node may begin, if it is of the part's kind
abbrev pub MayList : HeldView → PartView → Stage → List ℕ → Type 0
MayList held part stage numbers =
    IsOfKind part held.node.state → numbers ≡ ready_numbers tagged_kind held.node.state part stage

-- an event was asked for once: the seat has calls of it more, or none; and the fault, if it was refused
abbrev pub DidEvent : Plan → SeatView → Event → Result Bool EventFault → SeatView → Type 0
DidEvent plan old e answer new = HasCalls (λ x. x ≡ e) old new × IfErr answer (λ f. FaultsAs (event_fault plan e) e (Err f))

-- a part of a node was done by a worker of n
abbrev pub HasDone : Plan → Worker → ℕ → SeatView → End → SeatView → Type 0
HasDone plan w n old end new = HasWorked plan w.words n w.number old new × IfErr end (IsStop plan w.words n w.number)

-- the same, if all of the part's events are the worker's
abbrev pub DidPart : Plan → Worker → ℕ → PartView → SeatView → End → SeatView → Type 0
DidPart plan w n part old end new = All (IsPartEvent plan n w.number) part.events → HasDone plan w n old end new
