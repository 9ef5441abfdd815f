-- What a fabric leaves, as lists that an audit judges; and the run that it tells where they are those of one run.
use Rattle.c104_audit.specs.{AuditedRuns.{IsAuditedRun, WereBefore, node_shape}, declared.lists.Lists.Lists}
use Rattle.{c104_event.specs.declared.{calls.Call.Call, events.Event.Event}, c104_node.specs.Records.node_trace}
use Rattle.{c104_plan.specs.Wiring.wires, c104_run.specs.FinishedRecords.FinishedRecord, c104_switch.specs.Actions.Reply}
use Rattle.c104_workers.specs.{Fabrics.Left, declared.calls.SeatCalls.SeatCalls}
use Rattle.std.specs.{List.range_with_len, Prelude.{List, [], if◌then◌else◌, length, map, max, nat_eq, ℕ, ◌+◌, ◌∷◌}}

-- the calls of the first of some seats that has a number; none, if none has it
abbrev pub seat_list : ℕ → List SeatCalls → List Call
seat_list number [] = []
seat_list number (s ∷ seats) = if nat_eq s.number number then s.calls else seat_list number seats

-- the number past the greatest of some seats
abbrev pub past_seats : List SeatCalls → ℕ
past_seats [] = 0
past_seats (s ∷ seats) = max (s.number + 1) (past_seats seats)

-- the lists of what a fabric leaves: what was known when it was made, what the nodes keep, and the seats' calls
abbrev pub lists_of : Left → Lists
lists_of left = record {
  first = left.handed.count;
  switches = length left.handed.plan.switches;
  cap = left.handed.plan.cap;
  wires = wires left.handed.plan;
  starts = left.handed.starts;
  before = left.handed.before;
  nodes = map node_shape left.nodes;
  traces = map node_trace left.nodes;
  calls = map (λ number. seat_list number left.seats) (range_with_len 0 (past_seats left.seats));
}

-- a run is the one that is told by what a fabric leaves: it begins with what the network had done when the fabric was
-- made, then the seats' calls stand and nothing else, and it ends where the nodes stand
abbrev pub TellsSeats : Left → FinishedRecord → Type 0
TellsSeats left run = (before : List (Event × Reply)) → WereBefore left.handed.plan (lists_of left) before →
    IsAuditedRun left.handed.plan left.nodes (lists_of left) before run
