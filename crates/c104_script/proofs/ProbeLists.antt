-- Lines of the debugger of too few words, or of too many.
use Rattle.{c104_plan.specs.Plans.Plan, c104_script.specs.{Script.{poke_words, value_words}, declared.faults.LineFault.LineFault}}
use Rattle.std.proofs.Common.{Bor, Err, List, [], arith, length, map, refl, ℕ, ◌<◌, ◌∷◌, ◌≡◌, ◌≤◌}

-- `poke` and one word, or none
pub few_pokes : (plan : Plan) (words : List (Bor (List ℕ))) → length words < 2 → Err LineFault.BadShape ≡ poke_words plan (map (λ word. word.now) words)
few_pokes plan [] short = refl
few_pokes plan (a ∷ []) short = refl
few_pokes plan (a ∷ b ∷ more) short = absurd (omega (arith, short))

-- no value, or more behind the number of a row than a value
pub no_value : (plan : Plan) (node word : List ℕ) (words : List (Bor (List ℕ))) → length words < 1 → Err LineFault.BadShape ≡ value_words plan node word (map (λ word. word.now) words)
no_value plan node word [] short = refl
no_value plan node word (a ∷ more) short = absurd (omega (arith, short))

pub many_values : (plan : Plan) (node word : List ℕ) (words : List (Bor (List ℕ))) → 3 ≤ length words → Err LineFault.BadShape ≡ value_words plan node word (map (λ word. word.now) words)
many_values plan node word [] long = absurd (omega (arith, long))
many_values plan node word (a ∷ []) long = absurd (omega (arith, long))
many_values plan node word (a ∷ b ∷ []) long = absurd (omega (arith, long))
many_values plan node word (a ∷ b ∷ c ∷ more) long = refl
