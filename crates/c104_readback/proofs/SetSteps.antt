-- Values that are set in an image one after the other: at their switch what pokes of the switch give, and elsewhere what was there.
use Rattle.{c104_node.proofs.WireEnds.{get_set_other, get_set_same}, c104_plan.specs.{ImageEdits.{AnswersDue, image_set}, PlanImage.Image}}
use Rattle.{c104_plan.specs.declared.image_faults.ImageFault.ImageFault, c104_regs.proofs.KeptPokes.{AreKept, with_values}}
use Rattle.c104_regs.{proofs.SameSettings.kept_back, specs.{KeptValues.kept_values, Registers.{bank_poke, placed_bank, reset_bank}}}
use Rattle.{c104_regs.specs.declared.settings.Settings.Settings, std.proofs.Common.{Err, List, None, Option, Result, Some, ap, arith, drop}}
use Rattle.std.proofs.Common.{drop-cons, get_or, inl, inr, length, refl, slice_get, slice_set, suc, sym, ℕ, ◌+◌, ◌<◌, ◌∙◌, ◌∷◌, ◌≡◌, ◌≢◌}
use Rattle.std.proofs.{Common.◌≤◌, Math.ListN.drop_of_length-le, lemmas.List.length-set}

-- what is set where memory does not run out is what is due
pub done_set : (old after : Image) (switch a v : ℕ) (answer : Result (Unit {0}) ImageFault) → AnswersDue old (image_set old switch a v) answer after → answer ≢ Err ImageFault.NoMemory
    → after.settings ≡ (image_set old switch a v).1.settings
done_set old after switch a v answer (inl is) unless = ap (λ (x : Result (Unit {0}) ImageFault × Image). x.1.settings) is
done_set old after switch a v answer (inr none) unless = absurd (unless none.0)

module _ (old after : Image) (switch a v : ℕ) (due : after.settings ≡ (image_set old switch a v).1.settings) where
  poked : (cur : List Settings) → slice_get old.settings switch ≡ Some cur
      → (image_set old switch a v).1.settings ≡ slice_set old.settings switch (bank_poke (placed_bank cur) a v).1.settings
  poked cur at = rw at refl

  pub set_here : (cur : List Settings) → slice_get old.settings switch ≡ Some cur
      → slice_get after.settings switch ≡ Some (bank_poke (placed_bank cur) a v).1.settings
  set_here cur at = ap (λ (xs : List (List Settings)). slice_get xs switch) (due ∙ poked cur at) ∙ get_set_same old.settings switch cur _ at

  pub set_others : (k : ℕ) → k ≢ switch → slice_get after.settings k ≡ slice_get old.settings k
  set_others k other = ap (λ (xs : List (List Settings)). slice_get xs k) due ∙ by (slice_get old.settings switch) refl
    where
      by : (o : Option (List Settings)) → slice_get old.settings switch ≡ o → slice_get (image_set old switch a v).1.settings k ≡ slice_get old.settings k
      by None none = rw none refl
      by (Some cur) at =
          ap (λ (xs : List (List Settings)). slice_get xs k) (poked cur at) ∙ get_set_other old.settings switch k _ (λ same. other (sym same))

  pub set_count : length after.settings ≡ length old.settings
  set_count = ap length due ∙ by (slice_get old.settings switch) refl
    where
      by : (o : Option (List Settings)) → slice_get old.settings switch ≡ o → length (image_set old switch a v).1.settings ≡ length old.settings
      by None none = rw none refl
      by (Some cur) at = ap length (poked cur at) ∙ length-set old.settings switch _

-- what is left of the values makes of the settings at a switch what all of them make of those before
abbrev pub AreLeft : Image → Image → ℕ → List (ℕ × ℕ) → ℕ → Type 0
AreLeft before now switch values i =
    (bank : List Settings) → slice_get before.settings switch ≡ Some bank
    → (at : List Settings) × (slice_get now.settings switch ≡ Some at) × (with_values at (drop i values) ≡ with_values bank values)

pub left_first : (before : Image) (switch : ℕ) (values : List (ℕ × ℕ)) → AreLeft before before switch values 0
left_first before switch values bank at = (bank, at, refl)

pub left_next : (before old after : Image) (switch : ℕ) (values : List (ℕ × ℕ)) (i : ℕ) (d : ℕ × ℕ) → i < length values
    → after.settings ≡ (image_set old switch (get_or values i d).0 (get_or values i d).1).1.settings
    → AreLeft before old switch values i → AreLeft before after switch values (i + 1)
left_next before old after switch values i d inside due left bank at =
    let (cur, is, rest) = left bank at in
    let x = get_or values i d in
    let next : suc i ≡ i + 1 = omega arith in
    let here = drop-cons values i d inside ∙ ap (λ n. x ∷ drop n values) next in
    (_, set_here old after switch x.0 x.1 due cur is, sym (ap (with_values cur) here) ∙ rest)

-- after all values that are kept of settings, a switch that was as after a reset has these settings
pub left_none : (before now : Image) (switch : ℕ) (values : List (ℕ × ℕ)) (i : ℕ) (settings : List Settings)
    → length values ≤ i → AreLeft before now switch values i → AreKept settings → values ≡ kept_values settings
    → slice_get before.settings switch ≡ Some reset_bank.settings → slice_get now.settings switch ≡ Some settings
left_none before now switch values i settings past left kept are at =
    let (cur, is, rest) = left reset_bank.settings at in
    is ∙ ap Some (sym (ap (with_values cur) (drop_of_length-le values past)) ∙ rest ∙ ap (with_values reset_bank.settings) are ∙ kept_back settings kept)
