use Rattle.{c104_node.specs.Arrivals.overlaid, std.proofs.Common.{List, Some, slice_get, take, ◌≡◌}}

-- the token where those so far are laid over a list
abbrev pub invariant-loop-other : Rattle.c104_node.proofs.terminal.arrived.token_among.Given.invariant-loop-other
invariant-loop-other g l = (list : List g.row.T.Denot) → slice_get list l.index ≡ Some l.fn.first → slice_get (overlaid (take l.other-index l.others) list) l.index ≡ Some l.token
