-- What a meter is told of a network with its record: by the tokens that the network carries itself.
use Rattle.{c104_event.specs.declared.{events.Event.Event, faults.EventFault.EventFault}, c104_node.specs.MappedNodes.map_node}
use Rattle.{c104_node.specs.{Nodes.Node, Places.started_base, Starts.start_node, Traces.seatless}, c104_run.specs.EventRuns.Answers}
use Rattle.c104_run.specs.{FairRounds.{SwitchTurns, fair_round, fairly, in_turn}, HandedWords.{Words, round_with}, Meters.{Metered, Sees}}
use Rattle.c104_run.specs.{Meters.{metered_apply, with_meter}, NetRecords.NetRecord, Network.network_of, RecordedRuns.record_apply}
use Rattle.{c104_run.specs.{RoundParts.PartEnds, Runs.IsRunRecord, Stages.Stage}, c104_switch.specs.Actions.Reply}
use Rattle.c104_token.specs.Kinds.{Kind}
use Rattle.std.specs.Prelude.{Bool, List, Result, map, true, ◌≡◌}

-- the stage that a network with its record is at, where its nodes over its own tokens are these
abbrev pub own_stage : {A : Type 0} → NetRecord → List (Node A) → Stage A
own_stage r nodes = record {
  network = network_of r.network.plan nodes;
  bases = map started_base r.starts;
  traces = r.traces;
  count = r.count;
}

-- nodes over a kind of tokens that are those of a record over plain ones, and to which the run leads that it tells
pub record AreOwnNodes {A : Type 0} (kind : Kind A) (r : NetRecord) (nodes : List (Node A)) : Type 0 where
  pub plain : map (map_node kind.plain) nodes ≡ r.network.nodes
  pub events : List (Event × Reply)
  pub told : IsRunRecord kind r.network.plan seatless (map start_node r.starts) nodes r.traces r.count events

-- a meter before and after something that leads from one network with its record to another: this is so of the metered
-- stages over the nodes of their own tokens
pub record MetersSo {A M : Type 0} (kind : Kind A) (old : NetRecord) (m : M) (new : NetRecord) (n : M)
    (Ends : Metered A M → Metered A M → Type 0) : Type 0 where
  pub before : List (Node A)
  pub after : List (Node A)
  pub begun : AreOwnNodes kind old before
  pub ended : AreOwnNodes kind new after
  pub ends : Ends (with_meter (own_stage old before) m) (with_meter (own_stage new after) n)

-- a meter is told what is due of an event, where it was done
abbrev pub MetersEvent : {A M : Type 0} → Kind A → Sees M A → NetRecord → M → Event → Result Reply EventFault
    → NetRecord → M → Type 0
MetersEvent kind sees old m e answer new n =
    MetersSo kind old m new n (λ x y. Answers (metered_apply kind true sees) x e answer y)

-- it is told what is due of the events of a round whose inputs are handed words
abbrev pub MetersRound : {A M : Type 0} → Kind A → Sees M A → Words → NetRecord → M → Result Bool EventFault → NetRecord → M → Type 0
MetersRound kind sees words old m result new n =
    MetersSo kind old m new n (λ x y. PartEnds (metered_apply kind true sees) x (round_with words old.network.plan) result y)

-- how one round ends: as the run of its events, up to the first that is refused; where none was done nothing has changed
abbrev pub RecordsRound : Words → NetRecord → Result Bool EventFault → NetRecord → Type 0
RecordsRound words old result new = PartEnds record_apply old (round_with words old.network.plan) result new

-- the same of a fair round, from turns on, and the turns that it leaves
abbrev pub MetersFairRound : {A M : Type 0} → Kind A → Sees M A → Words → NetRecord → M → List SwitchTurns → Result Bool EventFault
    → NetRecord → M → List SwitchTurns → Type 0
MetersFairRound kind sees words old m turns result new n left =
    MetersSo kind old m new n (λ x y. PartEnds (fairly (metered_apply kind true sees)) (in_turn x turns)
    (fair_round words turns old.network.plan) result (in_turn y left))

abbrev pub RecordsFairRound : Words → NetRecord → List SwitchTurns → Result Bool EventFault → NetRecord → List SwitchTurns → Type 0
RecordsFairRound words old turns result new left =
    PartEnds (fairly record_apply) (in_turn old turns) (fair_round words turns old.network.plan) result (in_turn new left)
