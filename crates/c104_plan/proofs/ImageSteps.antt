-- A value set in one switch of an image, as the whole image has it.
use Rattle.c104_plan.specs.{ImageEdits.{AnswersDue, image_peek, image_set, poke_answer, settings_set}, PlanImage.{AreSettings, Image}}
use Rattle.{c104_plan.specs.{PlanImage.IsImage, declared.image_faults.ImageFault.ImageFault}, c104_regs.proofs.PlacedPokes.poke_refused}
use Rattle.c104_regs.{proofs.PlacedPokes.poke_taken, specs.Registers.{bank_peek, placed_bank, settable}}
use Rattle.{c104_regs.specs.declared.{faults.RegFault.RegFault, settings.Settings.Settings}, std.proofs.Common.{Err, List, Ok, OnErr, OnOk}}
use Rattle.std.proofs.Common.{Result, Some, ap, arith, get_or, inl, inr, length, set, slice_get, sym, ℕ, ◌<◌, ◌∙◌, ◌≡◌, ◌≢◌, ◌⊎◌}
use Rattle.std.proofs.lemmas.{Bool.{cases_eq, cases_lt}, List.{Elements.All-set, get_or-set_other, get_or-set_same, length-set, set-get_or}}
use Rattle.std.proofs.lemmas.Option.{get_or_from_slice_get, slice_get-get_or, slice_get_past, slice_get_within}

abbrev image_of : List (ℕ × ℕ) → List (List Settings) → Image
image_of ranges settings = record { ranges = ranges; settings = settings }

-- what stands at another place
other_at : {X : Type 0} (xs : List X) (i j : ℕ) (y d : X) → j ≢ i → slice_get (set xs i y) j ≡ slice_get xs j
other_at xs i j y d differs = elim (cases_lt j (length xs)) [
  | inl inside ↦ slice_get-get_or (set xs i y) j d (rw length-set inside) ∙ ap Some (get_or-set_other xs i j y d differs) ∙ sym (slice_get-get_or xs j d inside)
  | inr past ↦ slice_get_past (set xs i y) j (rw length-set past) ∙ sym (slice_get_past xs j past)
]

module _ (ranges : List (ℕ × ℕ)) (xs : List (List Settings)) (i a v : ℕ) (x y : List Settings) (r : Result (Unit {0}) ImageFault) (at : slice_get xs i ≡ Some x) where
  -- the switch's settings put back
  put_back : set xs i x ≡ xs
  put_back = ap (set xs i) (sym (get_or_from_slice_get xs i x x at)) ∙ set-get_or xs i x

  here_after : slice_get (set xs i y) i ≡ Some y
  here_after =
      let inside : i < length xs = slice_get_within xs i x at in
      slice_get-get_or (set xs i y) i y (rw length-set inside) ∙ ap Some (get_or-set_same xs i y y inside)

  abbrev image : Image
  image = image_of ranges xs

  abbrev after : Image
  after = image_of ranges (set xs i y)

  abbrev with : Result (Unit {0}) ImageFault × List Settings → Result (Unit {0}) ImageFault × Image
  with p = (p.0, image_of ranges (set xs i p.1))

  pub answered : AnswersDue x (settings_set x a v) r y → AnswersDue image (image_set image i a v) r after
  answered settled = search (arith, set, put_back)

  -- the fault of a register is that of its address and value
  fault_by : (e : RegFault) (s : Result (Unit {0}) RegFault) → settable a v ≡ s → r ≡ (settings_set x a v).0 → r ≡ Err (ImageFault.Register e) → settable a v ≡ Err e
  fault_by e (Ok u) is same refused =
      let done : (settings_set x a v).0 ≡ Ok tt = ap poke_answer (poke_taken a v x is) in
      let both : ◌≡◌ {A = Result (Unit {0}) ImageFault} (Ok tt) (Err (ImageFault.Register e)) = sym done ∙ sym same ∙ refused in
      cc
  fault_by e (Err f) is same refused = search (arith, poke_refused)

  pub fault_is : AnswersDue x (settings_set x a v) r y → (e : RegFault) → r ≡ Err (ImageFault.Register e) → settable a v ≡ Err e
  fault_is settled e refused = search (arith, fault_by)

  -- what the address reads afterwards, and what every other does
  pub written_at : OnOk r (bank_peek (placed_bank y) a ≡ Ok v) → OnOk r (image_peek after i a ≡ Some (Ok v))
  written_at reads = search (arith, here_after)

  abbrev Others : Type 0
  Others = (c : ℕ) → c ≢ a → bank_peek (placed_bank y) c ≡ bank_peek (placed_bank x) c

  abbrev AllOthers : Type 0
  AllOthers = (s c : ℕ) → (s ≢ i) ⊎ (c ≢ a) → image_peek after s c ≡ image_peek image s c

  here_as_before : (c : ℕ) → c ≢ a → Others → image_peek after i c ≡ image_peek image i c
  here_as_before c differs others = rw (here_after, at) (ap Some (others c differs))

  all_others : Others → AllOthers
  all_others others = search (arith, other_at, cases_eq, here_as_before)

  pub others_at : OnOk r Others → OnOk r AllOthers
  others_at others = search (arith, all_others)

  -- what the image keeps
  pub kept_image : OnOk r (AreSettings y) → OnErr r (y ≡ x) → IsImage image → IsImage after
  kept_image made unchanged kept = record {
    switches = All-set AreSettings xs i y (on r made unchanged) kept.switches;
    ranges = kept.ranges;
  }
    where
      on : (r : Result (Unit {0}) ImageFault) → OnOk r (AreSettings y) → OnErr r (y ≡ x) → AreSettings y
      on r made unchanged = search (arith, slice_get_within, get_or_from_slice_get)

-- an element that was found at a place is there
pub found_at : {X : Type 0} (xs : List X) (i : ℕ) (x : X) → i < length xs → x ≡ get_or xs i x → slice_get xs i ≡ Some x
found_at xs i x inside is = slice_get-get_or xs i x inside ∙ ap Some (sym is)
