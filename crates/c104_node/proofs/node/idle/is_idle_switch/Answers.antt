use Rattle.{c104_crossbar.specs.Groups.has_bit, c104_node.proofs.IdleNodes.idle_switch, c104_switch.proofs.Wanting.{first_isnt, next_below}}
use Rattle.{c104_switch.specs.Switch.{switch_credit_out, switch_leave}, std.proofs.Common.{None, ap, arith, is_some, ◌&&◌}}

pub returns-in-None-None-None-None : Rattle.c104_node.proofs.node.idle.is_idle_switch.Goals.returns-in-None-None-None-None
returns-in-None-None-None-None g c = λ yes. idle_switch g.T.TokenKind.kind c.args.switch.now c.args.wired
    (next_below (λ l. has_bit c.granting.result l && has_bit c.args.wired l) (λ l. is_some (switch_credit_out c.args.switch.now l) && has_bit c.args.wired l) (λ l below. ap (λ b. b && has_bit c.args.wired l) (c.granting.ensures l below)) 0 None (rw c.in-None-None-None-None.is-0 at c.next-granting.ensures))
    (next_below (λ l. has_bit c.leaving.result l && has_bit c.args.wired l) (λ l. is_some (switch_leave c.args.switch.now l) && has_bit c.args.wired l) (λ l below. ap (λ b. b && has_bit c.args.wired l) (c.leaving.ensures l below)) 0 None (rw c.in-None-None-None-None.is-1 at c.next-leaving.ensures))
    (λ l word below linked. c.turning.ensures.others l word below (first_isnt _ _ (c.next-turning.ensures.0 l (omega arith) (rw c.in-None-None-None-None.is-2 below)) linked))
    (λ i o inside. c.next_wanting-wanting.ensures.passed i o (omega arith) (rw c.in-None-None-None-None.is-3 inside))
