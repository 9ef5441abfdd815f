use Rattle.{c104_node.specs.Records.{NodeRecord, NodeRoom, node_trace}, c104_run.proofs.LinkedNodes.known_nodes}
use Rattle.c104_run.{proofs.WiredTraces.{node_recorded, traces_wired}, specs.{KnownWires.is_linked_end, NetRecords.{NetRecord, net_record}}}
use Rattle.{c104_run.specs.WiredActs.IsRecordedNode, std.proofs.Common.{List, None, Some, ap, arith, length, refl, slice_get, subst, sym}}
use Rattle.std.proofs.{Common.{◌<◌, ◌∙◌, ◌≡◌, ◌≤◌}, lemmas.{Bool.Decides.nat_tests, Option.{slice_get-map, slice_get_past, slice_get_read}}}
use Rattle.std.specs.Option.{option_map}
use Rattle.c104_run.proofs.net.nodes.Net.node.Goals as goal

-- the node there
at : (c : goal.After-trace-trace) → slice_get c.self.inside.engine.places c.args.place ≡ Some c.in-Some.node.now
at c =
    let inside : c.args.place < length c.places.result.now = grind (arith, nat_tests, c.in-Some.ensures.lookup.0) in
    ap (λ (xs : List (NodeRecord × NodeRoom)). slice_get xs c.args.place) (sym c.places.ensures.places)
    ∙ slice_get_read c.places.result.now (length c.places.result.now) c.args.place c.in-Some.node.now refl inside c.in-Some.ensures.lookup.1

pub returns-in-Some-clause-node : goal.returns-in-Some-clause-node
returns-in-Some-clause-node c =
    subst (λ (r : NetRecord). IsRecordedNode r c.args.place c.in-Some.node.now.0) c.self.view_is
    (node_recorded c.self.inside.engine.plan c.self.inside.engine.places c.self.inside.engine.count (traces_wired (net_record c.self.inside.engine.plan c.self.inside.engine.places c.self.inside.engine.count) c.places.ensures.planned c.self.invariant.0.kept) c.args.place c.in-Some.node.now (at c) c.trace-trace.ensures.recorded)

pub returns-in-Some-clause-linked : goal.returns-in-Some-clause-linked
returns-in-Some-clause-linked c = λ l.
    known_nodes c.self.inside.engine.plan c.self.inside.engine.places c.places.ensures.knows c.args.place c.in-Some.node.now (at c) l
    ∙ ap (λ (r : NetRecord). is_linked_end r.network.plan c.args.place l) c.self.view_is

-- there is no such node
pub returns-in-None-clause-node : goal.returns-in-None-clause-node
returns-in-None-clause-node c =
    let outside : length c.places.result.now ≤ c.args.place = grind (arith, nat_tests, c.in-None.ensures.lookup.0) in
    let none : slice_get c.self.inside.engine.places c.args.place ≡ None = ap (λ (xs : List (NodeRecord × NodeRoom)). slice_get xs c.args.place) (sym c.places.ensures.places) ∙ slice_get_past c.places.result.now c.args.place outside in
    ap (λ (r : NetRecord). slice_get r.traces c.args.place) (sym c.self.view_is) ∙ slice_get-map node_trace c.self.inside.engine.places c.args.place ∙ ap (option_map node_trace) none
