use Rattle.{c104_plan.{proofs.PlanNames.free_switch, specs.PlanParts.plan_of}, std.proofs.Common.{sym, ◌∙◌}}

pub push-requires-clause-free : Rattle.c104_describe.proofs.lines.add_switch.Goals.push-requires-clause-free
push-requires-clause-free c = free_switch (plan_of c.args.draft.now.parts) c.args.name.now (sym c.is_taken.ensures ∙ c.if-is_taken.false)
