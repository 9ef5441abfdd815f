use Rattle.{c104_node.specs.Arrivals.overlaid, std.proofs.Common.{List, map, take, ◌≡◌}}

-- those so far are laid over the list
abbrev pub invariant-loop-other : Rattle.c104_node.proofs.terminal.arrived.overlay_plain.Given.invariant-loop-other
invariant-loop-other g l = (tokens : List g.row.T.Denot) → l.initial.list ≡ map g.T.TokenKind.kind.plain tokens → l.list ≡ map g.T.TokenKind.kind.plain (overlaid (take l.other-index l.others) tokens)
