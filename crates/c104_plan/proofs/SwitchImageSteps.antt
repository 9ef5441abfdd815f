-- What one switch of an image keeps.
use Rattle.c104_plan.{proofs.KeptUpdates.kept_after, specs.{ImageEdits.{poke_answer, settings_set}, SwitchImages.{AreKept, led_by}}}
use Rattle.c104_regs.proofs.{KeptLemmas.{map_of_kept, none_kept_values}, PlacedPokes.{poke_placed, poke_taken, settable_below}}
use Rattle.c104_regs.{proofs.RegisterLemmas.IsKept-reset, specs.{KeptValues.{IsMapOf, kept_value}, Registers.IsRegisterBank}}
use Rattle.c104_regs.specs.Registers.{RegisterBank, bank_peek, bank_poke, placed_bank, reset_bank, settable}
use Rattle.{c104_regs.specs.declared.{faults.RegFault.RegFault, settings.Settings.Settings}, std.proofs.Common.{All, List, Ok, Option}}
use Rattle.std.proofs.Common.{Result, [], ap, arith, replicate, subst, sym, true, ℕ, ◌++◌, ◌<◌, ◌∙◌, ◌≡◌, ◌≢◌}

-- a bank that is started
abbrev started : RegisterBank → RegisterBank
started b = record b { started = true }

pub kept_new : (b t : RegisterBank) (values : List (ℕ × ℕ)) → b ≡ reset_bank → t ≡ started b → values ≡ [] → AreKept t values
kept_new b t values reset on none = search (arith, replicate, IsKept-reset, none_kept_values)

-- a poke of a placed switch leaves a placed switch
placed_next : (b t : RegisterBank) (a v : ℕ) (r : Result (Unit {0}) RegFault) → b ≡ placed_bank b.settings → ◌≡◌ {A = Result (Unit {0}) RegFault × RegisterBank} (r, t) (bank_poke b a v) → t ≡ placed_bank t.settings
placed_next b t a v r placed poked = search (arith, poke_placed)

pub kept_next : (b t : RegisterBank) (a v : ℕ) (o : Option ℕ) (r : Result (Unit {0}) RegFault) (before after : List (ℕ × ℕ)) → AreKept b before → IsRegisterBank t → settable a v ≡ Ok tt
    → ◌≡◌ {A = Result (Unit {0}) RegFault × RegisterBank} (r, t) (bank_poke b a v)
    → ((c : ℕ) → c ≢ a → bank_peek t c ≡ bank_peek b c) → o ≡ kept_value t.settings a
    → ((front back : List (ℕ × ℕ)) (present : Option ℕ) → All (λ x. x.0 < a) front → All (λ x. a < x.0) back → before ≡ front ++ led_by a present back → after ≡ front ++ led_by a o back)
    → AreKept t after
kept_next b t a v o r before after kept in_range may poked others value updated =
    let placed : t ≡ placed_bank t.settings = placed_next b t a v r kept.placed poked in
    record {
      in_range = in_range;
      placed = placed;
      values = kept_after b.settings t.settings a before after
          (subst IsRegisterBank kept.placed kept.in_range) (subst IsRegisterBank placed in_range)
          (settable_below a v may)
          (λ c differs. ap (λ (x : RegisterBank). bank_peek x c) (sym placed) ∙ others c differs ∙ ap (λ (x : RegisterBank). bank_peek x c) kept.placed)
          kept.values
          (λ front back present below above is. updated front back present below above is ∙ ap (λ w. front ++ led_by a w back) value);
    }

-- what a register may be set to is set
pub set_taken : (settings : List Settings) (a v : ℕ) → settable a v ≡ Ok tt → (settings_set settings a v).0 ≡ Ok tt
set_taken settings a v may = ap poke_answer (poke_taken a v settings may)

-- the values of a switch are the map of what differs from a reset
pub kept_map : (b : RegisterBank) (values : List (ℕ × ℕ)) → AreKept b values → IsMapOf b.settings values
kept_map b values kept = subst (IsMapOf b.settings) (sym kept.values) (map_of_kept b.settings kept.in_range.in_range)
