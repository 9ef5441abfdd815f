use Rattle.std.proofs.{Common.{List, arith, length, slice_index_or, subst, ℕ, ◌<◌, ◌∙◌}, lemmas.Grind.get_or_default_zero}

-- the lent slice holds bytes, and it is the list
pub returns-clause-range : Rattle.c104_control.proofs.bytes.ControlBytes.as_slice.Goals.returns-clause-range
returns-clause-range c =
    let InRange : List ℕ → Type 0 = λ xs. (k d : ℕ) → k < length xs → slice_index_or xs k d < 256 in
    subst InRange (c.as_slice-slice.ensures.value ∙ c.self.view_is) (λ k d inside. rw (get_or_default_zero c.as_slice-slice.result.now k d inside) (grind arith))
