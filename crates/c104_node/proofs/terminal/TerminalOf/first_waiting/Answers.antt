use Rattle.c104_node.{proofs.Waiting.{first_waits, posted_at}, specs.{Outboxes.TerminalPacket, Terminals.Terminal}}
use Rattle.std.proofs.Common.{List, ap, slice_get, sym, ◌∙◌}

pub returns : Rattle.c104_node.proofs.terminal.TerminalOf.first_waiting.Goals.returns
returns g c =
    let p : TerminalPacket = c.in_ok-posted.posted.now in
    let here = posted_at c.self.inside.sent.items c.deref.result.now c.self.inside.next p c.deref.ensures.value c.in_ok-posted.ensures.lookup.3.0 c.in_ok-posted.ensures.lookup.1 in
    sym (ap (λ (t : Terminal g.row.T.Denot). slice_get t.output.items 0) (sym c.self.view_is)
    ∙ ap (λ (xs : List g.row.T.Denot). slice_get xs 0) (first_waits g.T.TokenKind.kind c.self.inside.sent.items c.self.inside.next c.self.inside.place p here c.token_at.result c.token_at.ensures))
