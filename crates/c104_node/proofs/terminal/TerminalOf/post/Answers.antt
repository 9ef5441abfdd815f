use Rattle.c104_node.{proofs.Waiting.{sends, sends_keeps}, specs.{Outboxes.TerminalPacket, Terminals.terminal_send}}
use Rattle.std.proofs.Common.{List, ap, length, refl, ℕ, ◌+◌, ◌∙◌}
use Rattle.c104_node.proofs.terminal.TerminalOf.post.Goals as goal

pub invariant_of-self : goal.invariant_of-self
invariant_of-self g c =
    let p : TerminalPacket = record { packet = c.args.packet; terminal = c.args.terminal } in (
      c.self.invariant.0,
      sends_keeps g.T.TokenKind.kind c.self.inside.sent.items c.push_roomy.new.list.items c.self.inside.next c.self.inside.place c.self.inside.waiting p c.args.packet refl c.push_roomy.ensures.items c.self.invariant.1
          (c.self.inside.waiting + (length c.as_slice.result.now + 1))
          (ap (λ (bytes : List ℕ). c.self.inside.waiting + (length bytes + 1)) c.as_slice.ensures),
    )

pub returns-clause-sent : goal.returns-clause-sent
returns-clause-sent g c =
    let p : TerminalPacket = record { packet = c.args.packet; terminal = c.args.terminal } in
    sends g.T.TokenKind.kind c.self.inside.sent.items c.push_roomy.new.list.items c.self.inside.next c.self.inside.place c.self.inside.waiting p c.args.packet refl c.push_roomy.ensures.items c.self.invariant.1 c.self.inside.input c.self.inside.credit c.self.inside.arrived
    ∙ ap (terminal_send g.T.TokenKind.kind c.args.terminal c.args.packet) c.self.view_is
