-- Switches do the steps of a load, each answered as it is to be.
use Rattle.{c104_control.specs.declared.commands.Command.TheVariants.{CPoke, Reset, Start}, c104_regs.proofs.KeptPokes.AreKept}
use Rattle.c104_regs.proofs.{KeptPokes.{AreSettable, kept_settable, with_values}, PlacedPokes.settable_below, SameSettings.kept_back}
use Rattle.c104_regs.specs.{KeptValues.kept_values, Registers.{bank_poke, placed_bank, reset_bank}, declared.settings.Settings.Settings}
use Rattle.{c104_switch.specs.{Commands.switch_reset, Switch.Switch}, c104_token.specs.declared.tokens.Token.Token}
use Rattle.c104_tools.{proofs.{KnownCommands.{AreDone, done_on}, ResetSwitches.{poke_obeyed, settable_small}}, specs.Loaded.each_with}
use Rattle.c104_tools.specs.{Loaded.{loaded, reset_with}, Loads.{for_each, load_list, order, pokes, steps_from, switch_pokes}}
use Rattle.{c104_tools.specs.{Outcomes.{any_value, step_result}, Ports.Switches, Steps.Step}, std.proofs.Common.{List, Ok, Some, [], ap}}
use Rattle.std.proofs.Common.{append_assoc, arith, length, map, refl, slice_get, slice_set, subst, suc, sym, zero, ℕ, ◌++◌, ◌+◌, ◌<◌, ◌^◌}
use Rattle.std.{proofs.{Common.{◌∙◌, ◌∷◌, ◌≡◌}, Math.Seq.set-append_seam}, specs.List.range_with_len}

-- the switch behind others
seam_get : (front rest : Switches) (s : Switch Token) → slice_get (front ++ s ∷ rest) (length front) ≡ Some s
seam_get [] rest s = refl
seam_get (x ∷ front) rest s = seam_get front rest s

at_seam : (front rest : Switches) (s : Switch Token) (n : ℕ) → n ≡ length front → slice_get (front ++ s ∷ rest) n ≡ Some s
at_seam front rest s n is = ap (slice_get (front ++ s ∷ rest)) is ∙ seam_get front rest s

set_seam : (front rest : Switches) (s t : Switch Token) (n : ℕ) → n ≡ length front → slice_set (front ++ s ∷ rest) n t ≡ front ++ t ∷ rest
set_seam front rest s t n is = ap (λ k. slice_set (front ++ s ∷ rest) k t) is ∙ set-append_seam front s rest t

-- the same switches, cut otherwise
moved : (before before' after after' : Switches) (steps : List Step) → before ≡ before' → after' ≡ after → AreDone before' steps after' → AreDone before steps after
moved before before' after after' steps from to done = subst (λ ss. AreDone ss steps after) (sym from) (subst (λ ss. AreDone before' steps ss) to done)

longer : (front : Switches) (s : Switch Token) (n : ℕ) → n ≡ length front → n + 1 ≡ length (front ++ s ∷ [])
longer [] s n is = omega arith
longer (x ∷ front) s zero is = absurd (omega arith)
longer (x ∷ front) s (suc n) is = let less : n ≡ length front = omega arith in let more = longer front s n less in omega arith

-- every switch is reset
resets_done : (front rest : Switches) (n : ℕ) → n ≡ length front → AreDone (front ++ rest) (map (λ switch. order switch Reset) (range_with_len n (length rest))) (front ++ map switch_reset rest)
resets_done front [] n is = refl
resets_done front (s ∷ rest) n is =
    let t = switch_reset s in (
      s,
      at_seam front rest s n is,
      refl,
      moved _ _ _ _ (map (λ switch. order switch Reset) (range_with_len (n + 1) (length rest)))
          (set_seam front rest s t n is ∙ sym (append_assoc front (t ∷ []) rest)) (append_assoc front (t ∷ []) (map switch_reset rest))
          (resets_done (front ++ t ∷ []) rest (n + 1) (longer front t n is)),
    )

-- settings of each switch of an image, within the registers' ranges
abbrev pub AreLoadable : List (List Settings) → Type 0
AreLoadable [] = Unit {0}
AreLoadable (settings ∷ image) = AreKept settings × AreLoadable image

-- values are poked into a switch that was reset
values_done : (front rest : Switches) (s : Switch Token) (settings : List Settings) (values : List (ℕ × ℕ)) (n : ℕ) → n ≡ length front → AreSettable values → AreDone (front ++ reset_with s settings ∷ rest) (pokes n values) (front ++ reset_with s (with_values settings values) ∷ rest)
values_done front rest s settings [] n is may = refl
values_done front rest s settings (x ∷ values) n is (may, more) =
    let now = reset_with s settings in
    let next = reset_with s (bank_poke (placed_bank settings) x.0 x.1).1.settings in
    let low : x.0 < 2 ^ 16 = omega (arith, settable_below x.0 x.1 may) in
    let obeyed = poke_obeyed s settings x.0 x.1 may low (settable_small x.0 x.1 may) in (
      now,
      at_seam front rest now n is,
      ap (λ (r : List ℕ × Switch Token). step_result any_value (order n (CPoke x.0 x.1)) (Ok r.0)) obeyed,
      moved _ _ _ _ (pokes n values)
          (ap (λ (r : List ℕ × Switch Token). slice_set (front ++ now ∷ rest) n r.1) obeyed ∙ set_seam front rest now next n is) refl
          (values_done front rest s (bank_poke (placed_bank settings) x.0 x.1).1.settings values n is more),
    )

-- the same of every switch of an image
image_done : (front switches : Switches) (image : List (List Settings)) (n : ℕ) → n ≡ length front → length image ≡ length switches → AreLoadable image → AreDone (front ++ map switch_reset switches) (steps_from switch_pokes n image) (front ++ each_with reset_with switches image)
image_done front [] [] n is same may = refl
image_done front (s ∷ switches) (settings ∷ image) n is same (may, more) =
    let t = reset_with s settings in
    let as_many : length image ≡ length switches = omega arith in
    done_on _ (switch_pokes n settings) (steps_from switch_pokes (n + 1) image) _ _
    (subst (λ (x : List Settings). AreDone (front ++ switch_reset s ∷ map switch_reset switches) (switch_pokes n settings) (front ++ reset_with s x ∷ map switch_reset switches)) (kept_back settings may)
    (values_done front (map switch_reset switches) s reset_bank.settings (kept_values settings) n is (kept_settable settings may)))
    (moved _ _ _ _ (steps_from switch_pokes (n + 1) image)
    (sym (append_assoc front (t ∷ []) (map switch_reset switches))) (append_assoc front (t ∷ []) (each_with reset_with switches image))
    (image_done (front ++ t ∷ []) switches image (n + 1) (longer front t n is) as_many more))
image_done front switches image n is same may = absurd (omega arith)

-- and every switch is started
starts_done : (front switches : Switches) (image : List (List Settings)) (n : ℕ) → n ≡ length front → length image ≡ length switches → AreDone (front ++ each_with reset_with switches image) (map (λ switch. order switch Start) (range_with_len n (length image))) (front ++ each_with loaded switches image)
starts_done front [] [] n is same = refl
starts_done front (s ∷ switches) (settings ∷ image) n is same =
    let now = reset_with s settings in
    let t = loaded s settings in
    let as_many : length image ≡ length switches = omega arith in (
      now,
      at_seam front (each_with reset_with switches image) now n is,
      refl,
      moved _ _ _ _ (map (λ switch. order switch Start) (range_with_len (n + 1) (length image)))
          (set_seam front (each_with reset_with switches image) now t n is ∙ sym (append_assoc front (t ∷ []) (each_with reset_with switches image))) (append_assoc front (t ∷ []) (each_with loaded switches image))
          (starts_done (front ++ t ∷ []) switches image (n + 1) (longer front t n is) as_many),
    )
starts_done front switches image n is same = absurd (omega arith)

-- so an image is loaded
pub load_done : (switches : Switches) (image : List (List Settings)) → length image ≡ length switches → AreLoadable image → AreDone switches (load_list image) (each_with loaded switches image)
load_done switches image same may =
    done_on switches (for_each (length image) Reset) (steps_from switch_pokes 0 image ++ for_each (length image) Start) (map switch_reset switches) _
    (subst (λ n. AreDone switches (for_each n Reset) (map switch_reset switches)) (sym same) (resets_done [] switches 0 refl))
    (done_on (map switch_reset switches) (steps_from switch_pokes 0 image) (for_each (length image) Start) (each_with reset_with switches image) _
    (image_done [] switches image 0 refl same may)
    (starts_done [] switches image 0 refl same))
