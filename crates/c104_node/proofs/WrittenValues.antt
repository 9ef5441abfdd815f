-- The values of writable registers so far, by address.
use Rattle.c104_node.{proofs.Ranges.range_more, specs.StartNumbers.{written_value, written_values}}
use Rattle.{c104_regs.specs.declared.settings.Settings.Settings, std.proofs.Common.{List, Option, [], ap, append_assoc, sym, ℕ, ◌++◌, ◌+◌}}
use Rattle.std.{proofs.{Common.{◌∙◌, ◌∷◌, ◌≡◌}, lemmas.List.Elements.filter_map-append}, specs.List.{cons_option, filter_map}}
use Rattle.std.specs.List.{range_with_len}

module _ (settings : List Settings) where
  abbrev pub so_far : ℕ → List ℕ
  so_far n = filter_map (written_value settings) (range_with_len 0 n)

  -- the next address adds its value, if it has one
  pub next_value : (before made : List ℕ) (n : ℕ) (o : Option ℕ) → made ≡ before ++ so_far n → o ≡ written_value settings n → made ++ cons_option o [] ≡ before ++ so_far (n + 1)
  next_value before made n o so is =
      ap (λ (xs : List ℕ). xs ++ cons_option o []) so ∙ append_assoc before (so_far n) (cons_option o [])
      ∙ ap (λ (p : Option ℕ). before ++ (so_far n ++ cons_option p [])) is
      ∙ ap (λ (xs : List ℕ). before ++ xs) (sym (ap (filter_map (written_value settings)) (range_more n) ∙ filter_map-append (written_value settings) (range_with_len 0 n) (n ∷ [])))

  pub all_values : (n : ℕ) → n ≡ 8448 → so_far n ≡ written_values settings
  unfolding written_values
  all_values n all = ap so_far all
