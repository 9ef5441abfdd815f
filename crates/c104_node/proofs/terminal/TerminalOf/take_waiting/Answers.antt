use Rattle.c104_node.{proofs.Waiting.{posted_at, rest_keeps, rest_taken, some_waits}, specs.Outboxes.{TerminalPacket, packet_of}}
use Rattle.{c104_node.specs.Outboxes.{waiting_from, waiting_taken}, std.proofs.Common.{ap, arith, inl, inr, length, map, refl, sym, ℕ, ◌+◌}}
use Rattle.std.proofs.Common.{◌∙◌, ◌≡◌}
use Rattle.c104_node.proofs.terminal.TerminalOf.take_waiting.Goals as goal

pub overflow_sub-self : goal.overflow_sub-self
overflow_sub-self g c =
    let p : TerminalPacket = c.in_ok-posted.posted.now in
    let here = posted_at c.self.inside.sent.items c.deref.result.now c.self.inside.next p c.deref.ensures.value c.in_ok-posted.ensures.lookup.3.0 c.in_ok-posted.ensures.lookup.1 in
    some_waits g.T.TokenKind.kind c.self.inside.sent.items c.self.inside.next c.self.inside.place p here c.self.inside.waiting c.self.invariant.1 c.token_at-token.result c.token_at-token.ensures

pub invariant_of-self : goal.invariant_of-self
invariant_of-self g c =
    let p : TerminalPacket = c.in_ok-posted.posted.now in
    let here = posted_at c.self.inside.sent.items c.deref.result.now c.self.inside.next p c.deref.ensures.value c.in_ok-posted.ensures.lookup.3.0 c.in_ok-posted.ensures.lookup.1 in
    let same : length c.as_slice-last.result.now ≡ length p.packet.bytes = ap (length {A = ℕ}) c.as_slice-last.ensures in (
      c.self.invariant.0,
      rest_keeps g.T.TokenKind.kind c.self.inside.sent.items c.self.inside.next c.self.inside.place p here c.self.inside.waiting c.self.invariant.1 c.token_at-token.result c.token_at-token.ensures c.self.inside.next (c.self.inside.place + 1)
          (inl (omega (arith, same, c.if-self-last.true), refl, refl)),
    )

pub invariant_of-self-2 : goal.invariant_of-self-2
invariant_of-self-2 g c =
    let p : TerminalPacket = c.in_ok-posted.posted.now in
    let here = posted_at c.self.inside.sent.items c.deref.result.now c.self.inside.next p c.deref.ensures.value c.in_ok-posted.ensures.lookup.3.0 c.in_ok-posted.ensures.lookup.1 in
    let same : length c.as_slice-last.result.now ≡ length p.packet.bytes = ap (length {A = ℕ}) c.as_slice-last.ensures in (
      c.self.invariant.0,
      rest_keeps g.T.TokenKind.kind c.self.inside.sent.items c.self.inside.next c.self.inside.place p here c.self.inside.waiting c.self.invariant.1 c.token_at-token.result c.token_at-token.ensures (c.self.inside.next + 1) 0
          (inr (omega (arith, same, c.if-self-last.false), refl, refl)),
    )

pub returns-then-self-last : goal.returns-then-self-last
returns-then-self-last g c =
    let p : TerminalPacket = c.in_ok-posted.posted.now in
    let here = posted_at c.self.inside.sent.items c.deref.result.now c.self.inside.next p c.deref.ensures.value c.in_ok-posted.ensures.lookup.3.0 c.in_ok-posted.ensures.lookup.1 in
    let same : length c.as_slice-last.result.now ≡ length p.packet.bytes = ap (length {A = ℕ}) c.as_slice-last.ensures in
    sym (rest_taken g.T.TokenKind.kind c.self.inside.sent.items c.self.inside.next c.self.inside.place p here c.self.inside.waiting c.self.invariant.1 c.token_at-token.result c.token_at-token.ensures c.self.inside.next (c.self.inside.place + 1)
    (inl (omega (arith, same, c.if-self-last.true), refl, refl))
    (record { input = c.self.inside.input; output = record { items = waiting_from g.T.TokenKind.kind c.self.inside.next c.self.inside.place c.self.inside.sent.items; credit = c.self.inside.credit }; sent = map packet_of c.self.inside.sent.items; arrived = c.self.inside.arrived }) refl)
    ∙ ap waiting_taken c.self.view_is

pub returns : goal.returns
returns g c =
    let p : TerminalPacket = c.in_ok-posted.posted.now in
    let here = posted_at c.self.inside.sent.items c.deref.result.now c.self.inside.next p c.deref.ensures.value c.in_ok-posted.ensures.lookup.3.0 c.in_ok-posted.ensures.lookup.1 in
    let same : length c.as_slice-last.result.now ≡ length p.packet.bytes = ap (length {A = ℕ}) c.as_slice-last.ensures in
    sym (rest_taken g.T.TokenKind.kind c.self.inside.sent.items c.self.inside.next c.self.inside.place p here c.self.inside.waiting c.self.invariant.1 c.token_at-token.result c.token_at-token.ensures (c.self.inside.next + 1) 0
    (inr (omega (arith, same, c.if-self-last.false), refl, refl))
    (record { input = c.self.inside.input; output = record { items = waiting_from g.T.TokenKind.kind c.self.inside.next c.self.inside.place c.self.inside.sent.items; credit = c.self.inside.credit }; sent = map packet_of c.self.inside.sent.items; arrived = c.self.inside.arrived }) refl)
    ∙ ap waiting_taken c.self.view_is
