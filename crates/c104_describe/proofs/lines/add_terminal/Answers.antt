use Rattle.{c104_plan.{proofs.PlanNames.free_terminal, specs.{PlanParts.plan_of, declared.plans.Terminal.Terminal}}, std.proofs.Common.List}
use Rattle.std.{proofs.Common.{ap, bytes_eq, sym, ℕ, ◌∙◌}, specs.List.list_any}

pub push-requires : Rattle.c104_describe.proofs.lines.add_terminal.Goals.push-requires
push-requires c =
    ap (λ (name : List ℕ). list_any (λ (t : Terminal). bytes_eq t.name name) (plan_of c.args.draft.now.parts).terminals) c.in_ok-name.ensures
    ∙ free_terminal (plan_of c.args.draft.now.parts) c.args.name.now (sym c.is_taken.ensures ∙ c.if-is_taken.false)
