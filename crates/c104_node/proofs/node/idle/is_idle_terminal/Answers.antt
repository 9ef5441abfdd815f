use Rattle.{c104_node.proofs.IdleNodes.{idle_terminal, opposite}, std.proofs.Common.{sym, ◌∙◌}}

pub returns : Rattle.c104_node.proofs.node.idle.is_idle_terminal.Goals.returns
returns g c = λ yes.
    idle_terminal g.T.TokenKind.kind c.args.terminal.now c.args._wired (sym c.can_credit_out.ensures ∙ c.if-can_credit_out.false) (sym c.can_leave.ensures ∙ c.if-can_leave.false)
    (sym c.can_drain.ensures ∙ opposite c.can_drain.result yes)
