use Rattle.{c104_plan.proofs.PlanRanges.next_first-last, std.proofs.Common.{Some, ap, length, slice_get, sym, ◌-◌, ◌∙◌, ◌≡◌}}
use Rattle.std.specs.Option.{option_copied}

-- the last terminal's range is the one that ends there
pub returns-in-Some-clause-first : Rattle.c104_plan.proofs.parts.Parts.next_first.Goals.returns-in-Some-clause-first
returns-in-Some-clause-first c =
    let is_last : slice_get c.args.self.now.terminals (length c.args.self.now.terminals - 1) ≡ Some c.in-Some.terminal.now =
    ap (λ xs. slice_get xs (length xs - 1)) (sym c.as_slice.ensures) ∙ sym c.last.ensures.value ∙ ap option_copied c.in-Some.is in
    sym (next_first-last c.args.self.now.terminals c.in-Some.terminal.now is_last)
