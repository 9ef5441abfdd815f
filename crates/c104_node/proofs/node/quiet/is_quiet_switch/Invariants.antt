use Rattle.{c104_node.specs.Quiet.is_quiet_view, c104_switch.specs.Views.link_view, std.proofs.Common.{true, ℕ, ◌<◌, ◌≡◌}}

-- the links so far are quiet
abbrev pub invariant-loop-link : Rattle.c104_node.proofs.node.quiet.is_quiet_switch.Given.invariant-loop-link
invariant-loop-link g l = (k : ℕ) → k < l.link → is_quiet_view (link_view g.T.TokenKind.kind l.switch k) ≡ true
