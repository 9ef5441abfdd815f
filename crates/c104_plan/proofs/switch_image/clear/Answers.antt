use Rattle.{c104_plan.proofs.KeptUpdates.{inside_by, none_there, taken_out}, std.{proofs.Common.{List, ap, sym, ℕ, ◌∙◌}, specs.List.remove}}
use Rattle.c104_plan.proofs.switch_image.clear.Goals as goal

pub remove-requires : goal.remove-requires
remove-requires c = inside_by _ _ c.args.place c.args.addr (0, 0) c.as_slice.ensures.len (sym (c.is_at.ensures (0, 0)) ∙ c.if-is_at.true)

pub returns-then-is_at-clause-rest : goal.returns-then-is_at-clause-rest
returns-then-is_at-clause-rest c front back present above here is =
    c.remove.ensures.items ∙ ap (λ (xs : List (ℕ × ℕ)). remove xs c.args.place) (sym c.as_slice.ensures.value)
    ∙ taken_out front back c.args.addr above present c.as_slice.result.now c.args.place (0, 0) here (c.as_slice.ensures.value ∙ is) (sym c.if-is_at.true ∙ c.is_at.ensures (0, 0))

pub returns-else-is_at-clause-rest : goal.returns-else-is_at-clause-rest
returns-else-is_at-clause-rest c front back present above here is =
    sym c.as_slice.ensures.value
    ∙ none_there front back c.args.addr above present c.as_slice.result.now c.args.place (0, 0) here (c.as_slice.ensures.value ∙ is) (sym c.if-is_at.false ∙ c.is_at.ensures (0, 0))
