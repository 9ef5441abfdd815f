-- What the traces of a run tell: whichever events left them are those that they tell.
--     TellsRun run events nodes      what they tell of events, and of where these led
--     TellsEachRun run      so it is of all events that have left this record
use Rattle.{c104_event.specs.declared.events.Event.Event, c104_net.specs.{ToldEvents.told_events, TracedEnds.traced_end}}
use Rattle.{c104_node.specs.{Nodes.Node, Starts.start_node, declared.stamps.Stamp.Stamp}, c104_run.specs.FinishedRecords.FinishedRecord}
use Rattle.{c104_run.specs.{Runs.IsRunRecord, TracedRuns.IsTracedRun}, c104_switch.specs.Actions.Reply, c104_token.specs.Kinds.plain_kind}
use Rattle.c104_token.specs.declared.tokens.Token.{Token}
use Rattle.std.specs.Prelude.{List, map, ℕ, ◌≡◌}

-- the traces of a run tell these events, and the same were done with the same replies over tokens that tell where they
-- came from: without that the end is these nodes
pub record TellsRun (run : FinishedRecord) (events : List (Event × Reply)) (nodes : List (Node Token)) : Type 0 where
  pub told : told_events run.finished.plan run.traces ≡ map (λ (e : Event × Reply). e.0) events
  pub once_more : IsTracedRun run.finished.plan run.starts events nodes (traced_end run).nodes

-- so it is of whichever events have left this record, and of the nodes that they led to
abbrev pub TellsEachRun : FinishedRecord → Type 0
TellsEachRun run =
    (stamps : ℕ → Stamp) (events : List (Event × Reply)) (nodes : List (Node Token)) →
    IsRunRecord plain_kind run.finished.plan stamps (map start_node run.starts) nodes run.traces run.count events →
    TellsRun run events nodes
