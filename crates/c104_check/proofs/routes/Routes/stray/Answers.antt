use Rattle.c104_check.{proofs.RefusalLemmas.{no_start, refusal_from, spared_from}, specs.{Refusals.IsSpared, Routes.SwitchPort}}
use Rattle.{c104_check.specs.{Trails.routes_in, declared.faults.WalkFault.TheVariants.Stray}, std.proofs.Common.{List, None, Some, [], ap}}
use Rattle.std.proofs.{Common.{false, refl, slice_index_or, sym, true, ◌++◌, ◌∙◌, ◌∷◌, ◌≡◌}, lemmas.Option.slice_get-get_or}
use Rattle.c104_check.proofs.routes.Routes.stray.Goals.{else-start-via-else-start, else-start-via-then-start+else-random}
use Rattle.c104_check.proofs.routes.Routes.stray.Goals as goal

pub returns-then-random : goal.returns-then-random
returns-then-random c =
    let start = slice_index_or c.args.starts.now c.args.number no_start in
    let at = slice_get-get_or c.args.starts.now c.args.number no_start c.requires.number in
    spared_from (routes_in c.args.self.now) c.args.starts.now c.args.header c.args.number start at c.requires.owned c.if-start.true (c.requires.random.0 c.if-random.true)

pub returns : goal.returns
returns c =
    let routes = routes_in c.args.self.now in
    let start = slice_index_or c.args.starts.now c.args.number no_start in
    let at = slice_get-get_or c.args.starts.now c.args.number no_start c.requires.number in
    let walk : c.new-walk-2.result ≡ start.at ∷ [] = c.new-walk-2.ensures ∙ c.in_ok-push.ensures.items ∙ ap (λ (xs : List SwitchPort). xs ++ start.at ∷ []) c.new-walk.ensures.items in
    let not_spared : IsSpared routes c.args.header start → ⊥ = λ spared. elim c.else-start.branch [
      | else-start-via-then-start+else-random w ↦ let clash : true ≡ false = sym (c.requires.random.1 spared.2) ∙ w.if-random.false in absurd cc
      | else-start-via-else-start w ↦ let clash : true ≡ false = sym spared.1 ∙ w.if-start.false in absurd cc
    ] in
    refusal_from routes c.args.starts.now c.args.header c.args.number start None (record { start = c.args.number; why = Stray; shown = record { entry = start.terminal; header = c.args.header; walk = c.new-walk-2.result } }) c.requires.network (c.requires.starts c.args.number start at).0 at c.requires.owned refl refl refl (c.drops.ensures.stray c.if-drops.false ∙ ap (λ (xs : List SwitchPort). Some (Stray, xs)) (sym walk)) not_spared
