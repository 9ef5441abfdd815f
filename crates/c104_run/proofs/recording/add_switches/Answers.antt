use Rattle.c104_node.specs.{Nodes.Node, Records.{NodeRecord, NodeRoom}, Starts.start_node, declared.node.NodeOf.NodeOf}
use Rattle.{c104_node.specs.declared.starts.NodeStart.NodeStart, c104_regs.specs.declared.settings.Settings.Settings}
use Rattle.c104_run.{proofs.FirstRecords.{made_count, new_sized, node_more}, specs.NetRecords.first_record}
use Rattle.{c104_switch.specs.Switch.new_switch_with, c104_token.specs.declared.tokens.Token.Token, std.proofs.Common.{List, [], ap, arith}}
use Rattle.std.proofs.Common.{length, refl, rules, true, ◌+◌, ◌∙◌, ◌≡◌}
use Rattle.c104_run.proofs.recording.add_switches.Goals.{After-len}
use Rattle.c104_run.proofs.recording.add_switches.Goals as goal

-- how many nodes there are so far
counted : (c : After-len) → length c.loop-switch.list.items ≡ 0 + c.loop-switch.switch-index
counted c = made_count (λ settings. first_record (NodeOf.Switch (new_switch_with c.cap-cap.result settings true))) [] c.switches-switch-items.result.now c.loop-switch.switch-index c.loop-switch.list.items c.loop-switch.invariant.made (omega arith)

-- so its place is that of the next one
place : (c : After-len) → c.len.result ≡ length c.loop-switch.list.items
place c = omega (arith, c.len.ensures, c.reserve.new.self.ok.0, ap (length {A = NodeRecord × NodeRoom}) c.reserve.ensures.items)

pub node_links-links-requires : goal.node_links-links-requires
node_links-links-requires c =
    let all : length c.switches-switch-items.result.now ≡ length c.args.wires.now.switches = ap (length {A = List Settings}) c.switches-switch-items.ensures.settings ∙ c.requires.fits.settings in
    omega (arith, counted c, place c, all)

pub new-node-requires-clause-sized : goal.new-node-requires-clause-sized
new-node-requires-clause-sized c = new_sized c.cap-cap.result _ _ c.in_ok-start.start c.in_ok-start.ensures

-- this one is made too, with its start and its wired links
pub loop-switch-preserved : goal.loop-switch-preserved
loop-switch-preserved c =
    let due : Node Token = NodeOf.Switch (new_switch_with c.cap-cap.result c.switch-item.result true) in
    let made : NodeOf.Switch c.in_ok-core.core ≡ due = search rules in
    let begun : start_node (NodeStart.Switch c.in_ok-start.start) ≡ due = search rules in
    let both = node_more c.args.wires.now (λ x. NodeOf.Switch (new_switch_with c.cap-cap.result x true)) [] c.switches-switch-items.result.now c.loop-switch.switch-index c.switch-item.result c.loop-switch.list.items _ c.push_reserved.new.self.items c.new-node.result _ c.len.result (omega arith) c.switch-item.is c.new-node.ensures made begun refl c.node_links-links.ensures (place (goal.at.loop-switch-preserved c).After-len) c.reserve.ensures.items c.push_reserved.ensures.items c.loop-switch.invariant.made c.loop-switch.invariant.linked in
    record { made = both.0; linked = both.1 }
