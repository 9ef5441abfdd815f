use Rattle.{c104_switch.{proofs.GroupBits.{in_group_is, in_group_past}, specs.Group.is_in_group}, std.proofs.Common.{ap, arith, sym, ◌∙◌}}
use Rattle.c104_switch.proofs.group.group_of.Goals as goal

pub returns-then-link-ge-LINKS-clause-none : goal.returns-then-link-ge-LINKS-clause-none
returns-then-link-ge-LINKS-clause-none c = λ o below. in_group_past c.args.registers.now.settings c.continues-continues.result c.continues-continues.ensures.bits c.continues-continues.type_inv c.args.link o (omega arith) below

pub returns-clause-members : goal.returns-clause-members
returns-clause-members c = λ o.
    sym (ap (λ g. is_in_group c.args.registers.now.settings g o) c.from-link.ensures)
    ∙ sym (in_group_is c.args.registers.now.settings c.continues-continues.result c.continues-continues.ensures.bits c.from-link.result o)
    ∙ c.of.ensures.members o
