use Rattle.c104_node.specs.{Nodes.terminals_of, Records.{IsRecorded, NodeRecord, NodeRoom, node_start, node_state, node_trace}}
use Rattle.c104_run.proofs.{FinishedRuns.finished_record, Finishing.{arrived_same, terminals_counted}, RecordSteps.nodes_counted}
use Rattle.c104_run.{proofs.{RunPartLists.finish_is, WiredTraces.{all_recorded, traces_wired}}, specs.Finished.run_arrived}
use Rattle.c104_run.specs.{FinishedRecords.{FinishedRecord, IsFinishedRecord, record_finish}, NetRecords.{NetRecord, net_record}}
use Rattle.{c104_run.specs.Network.{network_arrived, network_of}, std.proofs.Common.{All, List, ap, arith, length, map, subst, sym, ℕ, ◌∙◌}}
use Rattle.std.proofs.{Common.◌≡◌, lemmas.List.length-map}
use Rattle.c104_run.proofs.net.Net.finish.Goals as goal

pub parts_of-parts-requires-clause-start_room : goal.parts_of-parts-requires-clause-start_room
parts_of-parts-requires-clause-start_room c =
    let counted = nodes_counted c.self.inside.engine.plan (map node_state c.self.inside.engine.places) c.self.invariant.0.kept.steady.in_place in
    let same = length-map c.self.inside.engine.places node_state in
    let placed = ap (length {A = NodeRecord × NodeRoom}) c.into_parts-wires.ensures.places in
    omega (arith, counted, same, placed, c.self.invariant.1.starts_fit)

pub parts_of-parts-requires-clause-trace_room : goal.parts_of-parts-requires-clause-trace_room
parts_of-parts-requires-clause-trace_room c =
    let counted = nodes_counted c.self.inside.engine.plan (map node_state c.self.inside.engine.places) c.self.invariant.0.kept.steady.in_place in
    let same = length-map c.self.inside.engine.places node_state in
    let placed = ap (length {A = NodeRecord × NodeRoom}) c.into_parts-wires.ensures.places in
    omega (arith, counted, same, placed, c.self.invariant.1.traces_fit)

pub parts_of-parts-requires-clause-terminal_room : goal.parts_of-parts-requires-clause-terminal_room
parts_of-parts-requires-clause-terminal_room c =
    let counted = terminals_counted c.self.inside.engine.plan (map node_state c.self.inside.engine.places) c.self.invariant.0.kept.steady.in_place in
    let placed = ap (λ (ns : List (NodeRecord × NodeRoom)). length (terminals_of (map node_state ns))) c.into_parts-wires.ensures.places in
    omega (arith, counted, placed, c.self.invariant.1.terminals_fit)

-- the run is what this network leaves
left_is : (c : goal.After-into_plan) → ◌≡◌ {A = FinishedRecord} (record { finished = record { plan = c.into_plan.result; terminals = c.parts_of-parts.result.terminals.items }; starts = c.parts_of-parts.result.starts.items; traces = c.parts_of-parts.result.traces.items; count = c.into_parts-wires.result.2 }) (record_finish (net_record c.self.inside.engine.plan c.self.inside.engine.places c.self.inside.engine.count))
left_is c =
    let placed = c.into_parts-wires.ensures.places in
    ap (λ (n : ℕ). record { finished = record { plan = c.into_plan.result; terminals = c.parts_of-parts.result.terminals.items }; starts = c.parts_of-parts.result.starts.items; traces = c.parts_of-parts.result.traces.items; count = n }) c.into_parts-wires.ensures.count
    ∙ finish_is c.self.inside.engine.plan c.into_plan.result c.self.inside.engine.places c.self.inside.engine.count c.parts_of-parts.result.terminals.items c.parts_of-parts.result.starts.items c.parts_of-parts.result.traces.items (c.into_plan.ensures ∙ c.into_parts-wires.ensures.plan)
    (c.parts_of-parts.ensures.terminals ∙ ap (λ (ns : List (NodeRecord × NodeRoom)). terminals_of (map node_state ns)) placed) (c.parts_of-parts.ensures.starts ∙ ap (map node_start) placed) (c.parts_of-parts.ensures.traces ∙ ap (map node_trace) placed)

pub invariant_of-result : goal.invariant_of-result
invariant_of-result c =
    let record_is : NetRecord = net_record c.self.inside.engine.plan c.self.inside.engine.places c.self.inside.engine.count in
    subst IsFinishedRecord (sym (left_is c))
    (finished_record record_is c.self.invariant.0.kept
    (all_recorded c.self.inside.engine.plan c.self.inside.engine.places c.self.inside.engine.count (traces_wired record_is c.into_parts-wires.ensures.planned c.self.invariant.0.kept)
    (subst (All (λ (node : NodeRecord × NodeRoom). IsRecorded node.0)) c.into_parts-wires.ensures.places c.parts_of-parts.ensures.recorded)))

pub returns-clause-left : goal.returns-clause-left
returns-clause-left c = left_is c ∙ ap record_finish c.self.view_is

pub returns-clause-arrived : goal.returns-clause-arrived
returns-clause-arrived c = λ t.
    ap (λ (r : FinishedRecord). run_arrived r.finished t) (left_is c)
    ∙ arrived_same (network_of c.self.inside.engine.plan (map node_state c.self.inside.engine.places)) c.self.invariant.0.kept.steady.in_place t
    ∙ ap (λ (r : NetRecord). network_arrived r.network t) c.self.view_is
