use Rattle.c104_node.{proofs.Waiting.{sends, sends_keeps}, specs.{Outboxes.TerminalPacket, Terminals.terminal_send}}
use Rattle.std.proofs.Common.{List, [], ap, length, rules, ◌++◌, ◌+◌, ◌∙◌, ◌∷◌, ◌≡◌}
use Rattle.c104_node.proofs.terminal.TerminalOf.send.Goals as goal

pub invariant_of-self-2 : goal.invariant_of-self-2
invariant_of-self-2 g c =
    let p : TerminalPacket = record { packet = c.in_ok-copy.copy; terminal = c.args.terminal } in
    let joined : c.push.new.self.items ≡ c.self.inside.sent.items ++ p ∷ [] = c.in-Ok.ensures.items ∙ ap (λ (ps : List TerminalPacket). ps ++ p ∷ []) c.reserve.ensures.items in
    let grown : c.in-Some.waiting ≡ c.self.inside.waiting + (length c.args.packet.now.bytes + 1) = search rules in
    (c.self.invariant.0, sends_keeps g.T.TokenKind.kind c.self.inside.sent.items c.push.new.self.items c.self.inside.next c.self.inside.place c.self.inside.waiting p c.args.packet.now c.in_ok-copy.ensures.cases joined c.self.invariant.1 c.in-Some.waiting grown)

pub returns-clause-done : goal.returns-clause-done
returns-clause-done g c =
    let p : TerminalPacket = record { packet = c.in_ok-copy.copy; terminal = c.args.terminal } in
    let joined : c.push.new.self.items ≡ c.self.inside.sent.items ++ p ∷ [] = c.in-Ok.ensures.items ∙ ap (λ (ps : List TerminalPacket). ps ++ p ∷ []) c.reserve.ensures.items in
    sends g.T.TokenKind.kind c.self.inside.sent.items c.push.new.self.items c.self.inside.next c.self.inside.place c.self.inside.waiting p c.args.packet.now c.in_ok-copy.ensures.cases joined c.self.invariant.1 c.self.inside.input c.self.inside.credit c.self.inside.arrived
    ∙ ap (terminal_send g.T.TokenKind.kind c.args.terminal c.args.packet.now) c.self.view_is
