use Rattle.c104_node.specs.{Nodes.Node, Records.{NodeRecord, NodeRoom}, Starts.start_node, declared.node.NodeOf.NodeOf}
use Rattle.{c104_node.specs.declared.starts.NodeStart.NodeStart, c104_plan.specs.Plans.Plan, c104_run.proofs.FirstRecords.made_count}
use Rattle.{c104_run.{proofs.FirstRecords.{new_sized, node_more}, specs.NetRecords.first_record}, c104_switch.specs.Switch.new_switch}
use Rattle.{c104_token.specs.declared.tokens.Token.Token, std.proofs.Common.{List, [], ap, arith, length, refl, rules, ℕ, ◌+◌, ◌∙◌, ◌≡◌}}
use Rattle.c104_run.proofs.recording.add_new_switches.Goals.{After-len}
use Rattle.c104_run.proofs.recording.add_new_switches.Goals as goal

-- how many nodes there are so far
counted : (c : After-len) → length c.loop-name.list.items ≡ 0 + c.loop-name._name-index
counted c = made_count (λ name. first_record (NodeOf.Switch (new_switch c.cap-cap.result))) [] c.switches-name-items.result.now c.loop-name._name-index c.loop-name.list.items c.loop-name.invariant.made (omega arith)

-- so its place is that of the next one
place : (c : After-len) → c.len.result ≡ length c.loop-name.list.items
place c = omega (arith, c.len.ensures, c.reserve.new.self.ok.0, ap (length {A = NodeRecord × NodeRoom}) c.reserve.ensures.items)

pub node_links-links-requires : goal.node_links-links-requires
node_links-links-requires c =
    let all : length c.switches-name-items.result.now ≡ length c.args.wires.now.switches = ap (length {A = List ℕ}) c.switches-name-items.ensures.switches ∙ ap (λ (p : Plan). length p.switches) c.plan-2.ensures.plan in
    omega (arith, counted c, place c, all)

pub new-node-requires-clause-sized : goal.new-node-requires-clause-sized
new-node-requires-clause-sized c = new_sized c.cap-cap.result _ _ c.in_ok-start.start c.in_ok-start.ensures

-- this one is made too, with its start and its wired links
pub loop-name-preserved : goal.loop-name-preserved
loop-name-preserved c =
    let due : Node Token = NodeOf.Switch (new_switch c.cap-cap.result) in
    let made : NodeOf.Switch c.in_ok-core.core ≡ due = search rules in
    let begun : start_node (NodeStart.Switch c.in_ok-start.start) ≡ due = search rules in
    let both = node_more c.args.wires.now (λ x. NodeOf.Switch (new_switch c.cap-cap.result)) [] c.switches-name-items.result.now c.loop-name._name-index c._name-item.result c.loop-name.list.items _ c.push_reserved.new.self.items c.new-node.result _ c.len.result (omega arith) c._name-item.is c.new-node.ensures made begun refl c.node_links-links.ensures (place (goal.at.loop-name-preserved c).After-len) c.reserve.ensures.items c.push_reserved.ensures.items c.loop-name.invariant.made c.loop-name.invariant.linked in
    record { made = both.0; linked = both.1 }
