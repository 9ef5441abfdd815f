-- A name is taken where a switch or a terminal has it.
use Rattle.{c104_plan.{proofs.PortLemmas.list_any-map, specs.Plans.{Plan, Terminal, is_taken}}, std.proofs.Common.{List, arith, bytes_eq}}
use Rattle.std.{proofs.{Common.{false, sym, ℕ, ◌||◌, ◌∙◌, ◌≡◌}, lemmas.{Bool.or_parts, List.Folds.list_any-append}}, specs.List.list_any}

pub taken_either : (plan : Plan) (name : List ℕ) → is_taken plan name ≡ (list_any (λ other. bytes_eq other name) plan.switches || list_any (λ (t : Terminal). bytes_eq t.name name) plan.terminals)
unfolding is_taken
taken_either plan name = search (arith, list_any-append, bytes_eq, list_any-map)

-- a name that isn't taken is no switch's, and no terminal's
pub free_switch : (plan : Plan) (name : List ℕ) → is_taken plan name ≡ false → list_any (λ other. bytes_eq other name) plan.switches ≡ false
free_switch plan name free = (or_parts _ _ (sym (taken_either plan name) ∙ free)).0

pub free_terminal : (plan : Plan) (name : List ℕ) → is_taken plan name ≡ false → list_any (λ (t : Terminal). bytes_eq t.name name) plan.terminals ≡ false
free_terminal plan name free = (or_parts _ _ (sym (taken_either plan name) ∙ free)).1
