-- What is left of a run of a network whose nodes keep what they do: the plan and the terminals at its end, where
-- its nodes started, what they did since, and how many events were done.
use Rattle.{c104_event.specs.declared.events.Event.Event, c104_node.specs.{Nodes.Node, Starts.start_node, Terminals.Terminal}}
use Rattle.{c104_node.specs.declared.{acts.Entry.Entry, stamps.Stamp.Stamp, starts.NodeStart.NodeStart}, c104_plan.specs.Plans.Plan}
use Rattle.c104_run.specs.{Balance.{AreInPlace, IsSteady}, Finished.{FinishedRun, network_finish}, NetRecords.{IsWithinLimit, NetRecord}}
use Rattle.{c104_run.specs.{Network.network_of, Runs.IsRunRecord, WiredActs.IsRecordedAt}, c104_switch.specs.Actions.Reply}
use Rattle.c104_token.specs.{Kinds.plain_kind, declared.tokens.Token.Token}
use Rattle.std.specs.Prelude.{All, List, [], length, map, ℕ, ◌+◌, ◌≡◌, ◌≤◌}

-- a run that is finished, with its record
pub record FinishedRecord : Type 0 where
  pub finished : FinishedRun Token
  pub starts : List NodeStart
  pub traces : List (List Entry)
  pub count : ℕ

-- a network with its record that is finished as it stands
abbrev pub record_finish : NetRecord → FinishedRecord
record_finish r = record {
  finished = network_finish r.network;
  starts = r.starts;
  traces = r.traces;
  count = r.count;
}

-- a run with its nodes at the end, as the network that would be left so
abbrev pub ended_record : FinishedRecord → List (Node Token) → NetRecord
ended_record run nodes = record {
  network = network_of run.finished.plan nodes;
  starts = run.starts;
  traces = run.traces;
  count = run.count;
}

-- what the type of a run keeps: there is one list of events, each answered and done with its stamp, which leads from
-- the start to the end, and of which the trace of each node is its part in the order of the tickets. Each trace is a
-- run of its node, over wired links alone, and within its limit. At the start credit was granted at both ends of each wire
-- alike.
pub record IsFinishedRecord (run : FinishedRecord) : Type 0 where
  pub stamps : ℕ → Stamp
  pub events : List (Event × Reply)
  pub nodes : List (Node Token)
  pub told : IsRunRecord plain_kind run.finished.plan stamps (map start_node run.starts) nodes run.traces run.count events
  pub ended : run.finished ≡ network_finish (network_of run.finished.plan nodes)
  pub placed : AreInPlace run.finished.plan nodes
  pub started : IsSteady {A = Token} (network_of run.finished.plan (map start_node run.starts))
  pub recorded : (k : ℕ) → IsRecordedAt (ended_record run nodes) k
  pub within : All IsWithinLimit run.traces

-- empty lists with room for what is left of a run: of each node where it started and what it did, and the
-- terminals
pub record HaveRunRoom (plan : Plan) (starts : List NodeStart) (traces : List (List Entry)) (terminals : List (Terminal Token))
    (start_room trace_room terminal_room : ℕ) : Type 0 where
  pub no_start : starts ≡ []
  pub no_trace : traces ≡ []
  pub no_terminal : terminals ≡ []
  pub starts_fit : length plan.switches + length plan.terminals ≤ start_room
  pub traces_fit : length plan.switches + length plan.terminals ≤ trace_room
  pub terminals_fit : length plan.terminals ≤ terminal_room
