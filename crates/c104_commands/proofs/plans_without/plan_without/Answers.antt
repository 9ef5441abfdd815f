use Rattle.c104_commands.{proofs.{GroupLemmas.all_taken_out, WithoutKept.without_kept}, specs.LeftGroups.AreTakenOut}
use Rattle.{c104_plan.specs.Plans.IsPlan, std.proofs.Common.{rules, subst, sym, ◌∙◌, ◌≡◌}}
use Rattle.c104_commands.proofs.plans_without.plan_without.Goals as goal

pub new-requires-2 : goal.new-requires-2
new-requires-2 c =
    subst IsPlan (sym c.in_ok-fill.ensures) (without_kept c.args.plan.now c.wire_at-wire.ensures.kept c.args.number c.wire_at-wire.result c.wire_at-wire.ensures.here c.wire_at-wire.ensures.there)

pub returns-clause-groups : goal.returns-clause-groups
returns-clause-groups c =
    all_taken_out c.args.plan.now c.args.number c.wire_at-wire.result c.new-2.result c.wire_at-wire.ensures.wire c.wire_at-wire.ensures.apart (c.new-2.ensures ∙ c.in_ok-fill.ensures)
