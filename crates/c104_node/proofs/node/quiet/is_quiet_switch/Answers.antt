use Rattle.{c104_node.proofs.QuietNodes.all_quiet, std.proofs.Common.{arith, refl}}

-- each link was seen to be quiet
pub returns : Rattle.c104_node.proofs.node.quiet.is_quiet_switch.Goals.returns
returns g c = (λ yes. all_quiet g.T.TokenKind.kind c.args.switch.now c.started-started.ensures.sound (λ l inside. c.loop-link.invariant l (omega (arith, inside, c.loop-link-test.false))), λ quiet. refl)
