-- The control commands that were done through a seat.
use Rattle.{c104_event.specs.declared.{calls.Call.Call, events.Event.Event, faults.EventFault.EventFault}, c104_switch.specs.Actions.Reply}
use Rattle.{c104_switch.specs.declared.actions.ReplyOf.ReplyOf, c104_tools.specs.{Outcomes.Given, Ports.command_asked}}
use Rattle.{c104_tools.specs.declared.{faults.LoadFault.LoadFault, ports.Asked.Asked}, c104_turns.specs.Calls.{IsSameSeat, SeatView}}
use Rattle.{c104_turns.specs.SeatGrowth.GrewBy, c104_workers.specs.Fabrics.FabricView}
use Rattle.std.specs.Prelude.{Err, List, MatchResult, Ok, [], length, ℕ, ◌++◌, ◌<◌, ◌∷◌, ◌≡◌}

-- the command, with its reply, that a switch was asked by an event that was answered so; none of any other event
abbrev pub told_command : Event → Reply → List Asked
told_command (Event.Control s bytes) (ReplyOf.Control told) = command_asked s bytes told ∷ []
told_command e r = []

-- the commands of calls, in order
abbrev pub seat_commands : List Call → List Asked
seat_commands [] = []
seat_commands (c ∷ calls) = told_command c.event c.reply ++ seat_commands calls

-- why a command of a switch isn't answered: there is no such switch, or what stands for it isn't ready; or the trace of
-- the switch or the seat's list is full, or memory has run out
abbrev pub IsFabricUnanswered : FabricView → ℕ → EventFault → Type 0
IsFabricUnanswered fabric switch EventFault.NoNode = Unit {0}
IsFabricUnanswered fabric switch EventFault.TraceFull = switch < length fabric.handed.plan.switches
IsFabricUnanswered fabric switch EventFault.NoMemory = switch < length fabric.handed.plan.switches
IsFabricUnanswered fabric switch f = ⊥

-- what a command of a switch does to a seat: its list grew by exactly the call of that command, with the reply that is
-- given; or no reply is given, and the seat is as it was
abbrev pub IsOneCall : SeatView → SeatView → ℕ → List ℕ → Given → Type 0
IsOneCall old new switch bytes (Ok told) = GrewBy old new (Event.Control switch bytes) (ReplyOf.Control told)
IsOneCall old new switch bytes (Err f) = new ≡ old

-- the same of a seat of a fabric: it stays the seat that it was, and no reply is given for such a fault alone
pub record SeatCommanded (fabric : FabricView) (old : SeatView) (switch : ℕ) (bytes : List ℕ) (given : Given) (new : SeatView)
    : Type 0 where
  pub same : IsSameSeat old new
  pub called : IsOneCall old new switch bytes given
  pub fault : MatchResult given (λ told. Unit {0}) (λ f. IsFabricUnanswered fabric switch f)

-- it is the seat that it was, and its list grew
pub record HasMoreCalls (old new : SeatView) : Type 0 where
  pub same : IsSameSeat old new
  pub more : List Call
  pub listed : new.calls ≡ old.calls ++ more

-- where a tool got no reply, it was for a command of a switch that the fabric has
abbrev pub IsLeftUnanswered : FabricView → LoadFault → Type 0
IsLeftUnanswered fabric (LoadFault.Port e) =
    (switch : ℕ) × (switch < length fabric.handed.plan.switches) × IsFabricUnanswered fabric switch e
IsLeftUnanswered fabric f = Unit {0}
