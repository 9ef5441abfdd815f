-- What is known of the wires of places: no act changes it, and an act that crosses a wire goes over it.
use Rattle.c104_node.{proofs.PlaceSteps.shown_at, specs.{Places.{PlaceBase, Shown, base_wired, bases}, Traces.part, WiredPlaces.links_at}}
use Rattle.{c104_node.specs.WiredPlaces.links_of, c104_plan.specs.Plans.Plan, c104_run.specs.KnownWires.{KnowWires, is_linked_end}}
use Rattle.std.proofs.Common.{Bool, IfSome, List, None, Option, Some, ap, arith, map, option_map, refl, slice_get, subst, sym, true, ℕ, ◌∙◌}
use Rattle.std.proofs.{Common.◌≡◌, lemmas.Option.{same_Some, slice_get-map}}

-- what is known of wires depends on nothing else
module _ (bs cs : List PlaceBase) (same : map base_wired bs ≡ map base_wired cs) where
  by_wired : (l : ℕ) (o : Option PlaceBase) → part true (λ (b : PlaceBase). links_of b l) o ≡ part true (λ (w : Option (ℕ → Bool)). part true (λ (wired : ℕ → Bool). wired l) w) (option_map base_wired o)
  by_wired l o = search arith

  links_same : (k l : ℕ) → links_at bs k l ≡ links_at cs k l
  links_same k l =
      by_wired l (slice_get bs k)
      ∙ ap (part true (λ (w : Option (ℕ → Bool)). part true (λ (wired : ℕ → Bool). wired l) w)) (sym (slice_get-map base_wired bs k) ∙ ap (λ ws. slice_get ws k) same ∙ slice_get-map base_wired cs k)
      ∙ sym (by_wired l (slice_get cs k))

  pub known_by : (plan : Plan) → KnowWires plan cs → KnowWires plan bs
  known_by plan known = record {
    ends = λ p q wired. (links_same _ _ ∙ (known.ends p q wired).0, links_same _ _ ∙ (known.ends p q wired).1);
    exact = λ k b here. exact_by k b here (slice_get cs k) refl;
  }
    where
      exact_by : (k : ℕ) (b : PlaceBase) → slice_get bs k ≡ Some b → (o : Option PlaceBase) → slice_get cs k ≡ o → IfSome b.wired (λ (wired : ℕ → Bool). (l : ℕ) → wired l ≡ is_linked_end plan k l)
      exact_by k b here None there =
          let both : Some b.wired ≡ None = sym (ap (option_map base_wired) here) ∙ sym (slice_get-map base_wired bs k) ∙ ap (λ ws. slice_get ws k) same ∙ slice_get-map base_wired cs k ∙ ap (option_map base_wired) there in
          absurd (let no : ⊥ = cc in no)
      exact_by k b here (Some c) there =
          let one : b.wired ≡ c.wired = same_Some _ _ (sym (ap (option_map base_wired) here) ∙ sym (slice_get-map base_wired bs k) ∙ ap (λ ws. slice_get ws k) same ∙ slice_get-map base_wired cs k ∙ ap (option_map base_wired) there) in
          subst (λ o. IfSome o (λ (wired : ℕ → Bool). (l : ℕ) → wired l ≡ is_linked_end plan k l)) (sym one) (known.exact k c there)

module _ {A : Type 0} where
  -- nothing is asked where nothing is known
  pub unknown : {P : Type 0} (shown : P → Shown A) → ((p : P) → (shown p).base.wired ≡ None) → (plan : Plan) (xs : List P) → KnowWires plan (bases (map shown xs))
  unknown {P} shown none plan xs = search (arith, shown_at)
