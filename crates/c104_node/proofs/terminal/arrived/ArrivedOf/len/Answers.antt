use Rattle.{c104_node.proofs.ArrivedLists.arrived_length, std.proofs.Common.{ap, length, sym, ℕ, ◌∙◌}}

pub returns : Rattle.c104_node.proofs.terminal.arrived.ArrivedOf.len.Goals.returns
returns g c =
    ap (length {A = ℕ}) c.as_slice.ensures.value
    ∙ sym (arrived_length g.T.TokenKind.kind c.self.inside.bytes.items c.self.inside.others.items)
    ∙ ap (length {A = g.row.T.Denot}) c.self.view_is
