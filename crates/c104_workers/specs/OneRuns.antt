-- What all that was done through the seats of a fabric comes to: one run of the network.
use Rattle.{c104_event.specs.declared.events.Event.Event, c104_node.specs.{Nodes.Node, Records.{NodeRecord, NodeRoom, node_start}}}
use Rattle.{c104_node.specs.{Records.{node_state, node_trace}, Starts.start_node, Traces.seatless}, c104_run.specs.NetParts.node_count}
use Rattle.{c104_run.specs.{NodeRuns.starting_nodes, Runs.IsRunRecord}, c104_switch.specs.Actions.Reply}
use Rattle.{c104_tickets.specs.{Tickets.{AreNumbered, Each}, declared.views.Done.Done}, c104_token.specs.Kinds.plain_kind}
use Rattle.{c104_token.specs.declared.tokens.Token.Token, c104_turns.specs.{Calls.IsOwn, Logs.{calls_in, done_pair, log_stamps, own_of}}}
use Rattle.c104_workers.specs.{Fabrics.{Handed, Left, WasHanded}, declared.calls.SeatCalls.SeatCalls}
use Rattle.std.specs.Prelude.{List, false, length, map, slice_index_or, ℕ, ◌++◌, ◌+◌, ◌<◌, ◌≡◌}

-- nodes that started so and have these traces did their parts of a log, behind what they had done before: of the run that
-- was before, and then of what was done on the fabric's own nodes, in the order of the tickets
pub record IsLogOf (handed : Handed) (nodes : List (NodeRecord × NodeRoom)) (log : List Done) : Type 0 where
  -- what the network had done that was handed over
  pub before : List (Event × Reply)
  pub middle : List (Node Token)
  pub was : IsRunRecord plain_kind handed.plan seatless (map start_node handed.starts) middle handed.before handed.count before
  pub starts : map node_start nodes ≡ handed.starts
  pub told : IsRunRecord plain_kind handed.plan (log_stamps handed.count (own_of log)) (starting_nodes nodes) (map node_state nodes)
      (map node_trace nodes) (handed.count + length (own_of log)) (before ++ map done_pair (own_of log))
  pub count : length before ≡ handed.count

-- the calls of a seat are its part of a log; and where none of them was done on nodes that were lent, that part is of the
-- fabric's own nodes alone
pub record IsSeatOfLog (log : List Done) (s : SeatCalls) : Type 0 where
  pub calls : s.calls ≡ calls_in s.number log
  pub own : s.lent ≡ false → Each (λ d. d.deed.seat ≡ s.number → IsOwn d) log

-- one log tells all that was done through seats of these numbers: its tickets are the numbers from the first up to the next,
-- the nodes did their parts of it, and the calls of each seat are its part
pub record IsOneRun (left : Left) : Type 0 where
  pub log : List Done
  pub numbered : AreNumbered left.handed.count log
  pub last : left.next ≡ left.handed.count + length log
  pub seated : Each (λ d. d.deed.seat < left.seat_count) log
  pub run : IsLogOf left.handed left.nodes log
  pub seats : Each (IsSeatOfLog log) left.seats

-- what the type of what a fabric leaves keeps: a node for each switch and each terminal, what was known of the network, and
-- that all that was done is one run
pub record IsLeft (left : Left) : Type 0 where
  pub nodes : length left.nodes ≡ node_count left.handed.plan
  pub handed : WasHanded left.handed
  pub one : IsOneRun left

-- all seats of a fabric are left, by their numbers, and through none of them anything was done on nodes that were lent: so
-- the run has just their calls
pub record IsWhole (left : Left) : Type 0 where
  pub count : length left.seats ≡ left.seat_count
  pub numbers : (i : ℕ) (d : SeatCalls) → i < left.seat_count → (slice_index_or left.seats i d).number ≡ i
  pub own : (i : ℕ) (d : SeatCalls) → i < left.seat_count → (slice_index_or left.seats i d).lent ≡ false
