-- Registers that are copied switch by switch, and labels that are copied terminal by terminal.
use Rattle.c104_node.{proofs.WireEnds.{get_set_other, get_set_same}, specs.{Nodes.Node, declared.node.NodeOf.NodeOf}}
use Rattle.c104_plan.specs.{ImageEdits.{image_set_range, is_range}, PlanImage.Image, Plans.IsRange}
use Rattle.{c104_plan.specs.declared.image_faults.ImageFault.ImageFault, c104_regs.specs.{KeptValues.kept_values, Registers.IsRegisterBank}}
use Rattle.c104_regs.specs.{Registers.{RegisterBank, placed_bank, reset_bank}, declared.settings.Settings.Settings}
use Rattle.{c104_switch.specs.Switch.Switch, c104_token.specs.declared.tokens.Token.Token, std.proofs.Common.{Bool, List, Result, Some, []}}
use Rattle.std.proofs.Common.{ap, arith, false, get_or, inl, inr, length, map, nat_lt, refl, slice_get, slice_set, suc, sym, true, zero, ℕ}
use Rattle.std.proofs.{Common.{◌+◌, ◌<◌, ◌∙◌, ◌∷◌, ◌≡◌, ◌≢◌, ◌≤◌}, lemmas.{Bool.{Decides.nat_tests, cases_eq}, List.length-map}}
use Rattle.std.proofs.lemmas.{List.length-set, Option.{slice_get-get_or, slice_get_past, slice_get_within}}

-- the switches before number n have their registers
abbrev pub AreCopied : List (Node Token) → List (List Settings) → ℕ → Type 0
AreCopied nodes left n =
    (k : ℕ) (s : Switch Token) → k < n → slice_get nodes k ≡ Some (NodeOf.Switch s) → slice_get left k ≡ Some s.settings

-- the switches from number n on are as after a reset
abbrev pub StayReset : List (List Settings) → ℕ → Type 0
StayReset left n = (k : ℕ) → n ≤ k → k < length left → slice_get left k ≡ Some reset_bank.settings

placed_kept : (bank : RegisterBank) → IsRegisterBank bank → IsRegisterBank (placed_bank bank.settings)
placed_kept bank is = search arith

pub copied_next : (nodes : List (Node Token)) (left after : List (List Settings)) (n : ℕ) (values : List (ℕ × ℕ)) (bank : RegisterBank)
    → n < length left → AreCopied nodes left n → StayReset left n
    → ((s : Switch Token) → slice_get nodes n ≡ Some (NodeOf.Switch s) → bank.settings ≡ s.settings)
    → IsRegisterBank bank → values ≡ kept_values bank.settings
    → ((k : ℕ) → k ≢ n → slice_get after k ≡ slice_get left k)
    → ((settings : List Settings) → IsRegisterBank (placed_bank settings) → values ≡ kept_values settings
    → slice_get left n ≡ Some reset_bank.settings → slice_get after n ≡ Some settings)
    → AreCopied nodes after (n + 1)
copied_next nodes left after n values bank inside copied reset found kept are others set k s low here = elim (cases_eq k n) [
  | inl same ↦
      ap (slice_get after) same ∙ set bank.settings (placed_kept bank kept) are (reset n (omega arith) inside)
      ∙ ap Some (found s (ap (slice_get nodes) (sym same) ∙ here))
  | inr apart ↦ others k apart ∙ copied k s (omega (arith, low, apart)) here
]

pub reset_next : (left after : List (List Settings)) (n : ℕ) → StayReset left n → length after ≡ length left
    → ((k : ℕ) → k ≢ n → slice_get after k ≡ slice_get left k) → StayReset after (n + 1)
reset_next left after n reset count others k from inside =
    others k (λ same. absurd (omega (arith, from, same))) ∙ reset k (omega (arith, from)) (omega (arith, inside, count))

-- the terminals before number n have the same labels
abbrev pub HaveLabels : List (ℕ × ℕ) → List (ℕ × ℕ) → ℕ → Type 0
HaveLabels ranges blank n = (t : ℕ) → t < n → slice_get blank t ≡ slice_get ranges t

module _ (ranges : List (ℕ × ℕ)) (blank after : Image) (t first count : ℕ) (answer : Result (Unit {0}) ImageFault)
    (due : ◌≡◌ {A = Result (Unit {0}) ImageFault × Image} (answer, after) (image_set_range blank t first count))
    (at : slice_get ranges t ≡ Some (first, count)) (range : IsRange first count) (many : length blank.ranges ≡ length ranges) where
  below : t < length blank.ranges
  below = omega (arith, slice_get_within ranges t (first, count) at, many)

  inside : nat_lt t (length blank.ranges) ≡ true
  inside = grind (arith, nat_tests, below)

  fits : is_range first count ≡ true
  fits = grind (arith, nat_tests, range)

  set : after ≡ record blank { ranges = slice_set blank.ranges t (first, count) }
  set = ap (λ (x : Result (Unit {0}) ImageFault × Image). x.1) due ∙ rw (inside, fits) refl

  pub labels_settings : after.settings ≡ blank.settings
  labels_settings = ap (λ (i : Image). i.settings) set

  pub labels_count : length after.ranges ≡ length ranges
  labels_count = ap (λ (i : Image). length i.ranges) set ∙ length-set blank.ranges t (first, count) ∙ many

  pub labels_next : HaveLabels ranges blank.ranges t → HaveLabels ranges after.ranges (t + 1)
  labels_next before u low = elim (cases_eq u t) [
    | inl same ↦
        ap (λ (i : Image). slice_get i.ranges u) set ∙ ap (slice_get (slice_set blank.ranges t (first, count))) same
        ∙ get_set_same blank.ranges t (get_or blank.ranges t (first, count)) (first, count) (slice_get-get_or blank.ranges t (first, count) below)
        ∙ sym at ∙ ap (slice_get ranges) (sym same)
    | inr apart ↦
        ap (λ (i : Image). slice_get i.ranges u) set ∙ get_set_other blank.ranges t u (first, count) (λ same. apart (sym same))
        ∙ before u (omega (arith, low, apart))
  ]

-- after the last terminal all labels are the same
pub labels_all : (ranges blank : List (ℕ × ℕ)) (n : ℕ) → length blank ≡ length ranges → length ranges ≤ n → HaveLabels ranges blank n → (t : ℕ) → slice_get blank t ≡ slice_get ranges t
labels_all ranges blank n count past labels t = by_test (nat_lt t n) refl
  where
    by_test : (b : Bool) → nat_lt t n ≡ b → slice_get blank t ≡ slice_get ranges t
    by_test true is = labels t (grind (arith, nat_tests, is))
    by_test false is =
        let beyond : n ≤ t = grind (arith, nat_tests, is) in
        slice_get_past blank t (omega (arith, count, past, beyond)) ∙ sym (slice_get_past ranges t (omega (arith, past, beyond)))

-- switches that all have the same settings
each_same : {X B : Type 0} (bank : B) (xs : List X) (k : ℕ) → k < length xs → slice_get (map (λ x. bank) xs) k ≡ Some bank
each_same bank [] k inside = absurd (omega (arith, inside))
each_same bank (x ∷ xs) zero inside = refl
each_same bank (x ∷ xs) (suc k) inside = each_same bank xs k (omega (arith, inside))

pub all_same : {X B : Type 0} (bank : B) (xs : List X) (settings : List B) → settings ≡ map (λ x. bank) xs → (k : ℕ) → k < length settings → slice_get settings k ≡ Some bank
all_same bank xs settings are k inside =
    let count : length settings ≡ length xs = ap length are ∙ length-map xs (λ x. bank) in
    ap (λ ys. slice_get ys k) are ∙ each_same bank xs k (omega (arith, inside, count))
