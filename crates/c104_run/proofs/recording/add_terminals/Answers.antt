use Rattle.c104_node.specs.{Nodes.Node, Records.{NodeRecord, NodeRoom}, Starts.start_node, Terminals.new_terminal}
use Rattle.{c104_node.specs.declared.{node.NodeOf.NodeOf, starts.NodeStart.NodeStart}, c104_plan.specs.Plans.Plan}
use Rattle.{c104_plan.specs.declared.plans.Terminal.Terminal, c104_run.proofs.FirstRecords.{made_count, node_more}}
use Rattle.{c104_run.specs.NetRecords.{first_record, shown_record}, c104_token.specs.declared.tokens.Token.Token, std.proofs.Common.ap}
use Rattle.std.proofs.{Common.{arith, length, map, refl, rules, ◌+◌, ◌∙◌, ◌≡◌}, lemmas.List.length-map}
use Rattle.c104_run.proofs.recording.add_terminals.Goals.{After-len}
use Rattle.c104_run.proofs.recording.add_terminals.Goals as goal

-- how many nodes there are so far
counted : (c : After-len) → length c.loop-terminal.list.items ≡ length (map shown_record c.args.list.now.items) + c.loop-terminal._terminal-index
counted c = made_count (λ terminal. first_record (NodeOf.Terminal (new_terminal c.cap-cap.result))) (map shown_record c.args.list.now.items) c.terminals-terminal-items.result.now c.loop-terminal._terminal-index c.loop-terminal.list.items c.loop-terminal.invariant.made (omega arith)

-- so its place is that of the next one
place : (c : After-len) → c.len.result ≡ length c.loop-terminal.list.items
place c = omega (arith, c.len.ensures, c.reserve.new.self.ok.0, ap (length {A = NodeRecord × NodeRoom}) c.reserve.ensures.items)

pub node_links-links-requires : goal.node_links-links-requires
node_links-links-requires c =
    let all : length c.terminals-terminal-items.result.now ≡ length c.args.wires.now.terminals = ap (length {A = Terminal}) c.terminals-terminal-items.ensures.terminals ∙ ap (λ (p : Plan). length p.terminals) c.plan-2.ensures.plan in
    omega (arith, counted c, place c, all, length-map c.args.list.now.items shown_record, c.requires.placed)

-- this one is made too, with its start and its wired links
pub loop-terminal-preserved : goal.loop-terminal-preserved
loop-terminal-preserved c =
    let due : Node Token = NodeOf.Terminal (new_terminal c.cap-cap.result) in
    let made : NodeOf.Terminal c.in_ok-core.core ≡ due = search rules in
    let begun : start_node (NodeStart.Terminal c.new-start.result) ≡ due = search rules in
    let both = node_more c.args.wires.now (λ x. NodeOf.Terminal (new_terminal c.cap-cap.result)) (map shown_record c.args.list.now.items) c.terminals-terminal-items.result.now c.loop-terminal._terminal-index c._terminal-item.result c.loop-terminal.list.items _ c.push_reserved.new.self.items c.new-node.result _ c.len.result (omega arith) c._terminal-item.is c.new-node.ensures made begun refl c.node_links-links.ensures (place (goal.at.loop-terminal-preserved c).After-len) c.reserve.ensures.items c.push_reserved.ensures.items c.loop-terminal.invariant.made c.loop-terminal.invariant.linked in
    record { made = both.0; linked = both.1 }
