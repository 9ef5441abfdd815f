-- Whether a network stands still, as a test: it holds exactly where that is so.
use Rattle.{c104_event.specs.declared.{events.Event.Event, faults.EventFault.EventFault}, c104_link.proofs.MadeSteps.All-place}
use Rattle.{c104_plan.proofs.RangeLists.all_of_each, c104_rows.specs.Standing.is_still, c104_run.specs.Network.{Network, network_apply}}
use Rattle.{c104_run.specs.{Reasons.is_unready, Rounds.round, Standstill.{IsUnready, StandsStill}}, c104_switch.specs.Actions.Reply}
use Rattle.{c104_switch.specs.declared.actions.ReplyOf.ReplyOf, c104_token.specs.{Kinds.plain_kind, declared.tokens.Token.Token}}
use Rattle.std.proofs.Common.{Bool, List, Ok, Result, Some, [], ap, arith, false, refl, slice_get, suc, sym, true, ℕ, ◌&&◌, ◌↔◌, ◌∷◌, ◌≡◌}
use Rattle.std.specs.List.{All, AllByRecursion, list_all}

-- a test of each of some values
module _ {X : Type 0} (P : X → Type 0) (p : X → Bool) (tells : (x : X) → (p x ≡ true) ↔ P x) where
  pub each_told : (xs : List X) → list_all p xs ≡ true → AllByRecursion P xs
  each_told [] is = tt
  each_told (x ∷ xs) is = by_first (λ rest. each_told xs rest) (p x) refl is
    where
      by_first : (list_all p xs ≡ true → AllByRecursion P xs) → (b : Bool) → p x ≡ b → (b && list_all p xs) ≡ true
          → AllByRecursion P (x ∷ xs)
      by_first later true first rest = ((tells x).0 first, later rest)
      by_first later false first rest = absurd (cc rest)

  all_told : (xs : List X) → ((i : ℕ) (x : X) → slice_get xs i ≡ Some x → P x) → list_all p xs ≡ true
  all_told [] all = refl
  all_told (x ∷ xs) all = rw ((tells x).1 (all 0 x refl)) (all_told xs (λ i y at. all (suc i) y at))

  pub tells_all : (xs : List X) → (list_all p xs ≡ true) ↔ All P xs
  tells_all xs = (λ is. all_of_each P xs (each_told xs is), λ all. all_told xs (λ i x at. All-place P xs i x at all))

unready_is : (answer : Result Reply EventFault) → is_unready answer ≡ true → answer ≡ Ok ReplyOf.NotReady
unready_is answer is = search arith

module _ (net : Network Token) where
  abbrev Unready : Event → Type 0
  Unready e = IsUnready plain_kind net e

  abbrev unready : Event → Bool
  unready e = is_unready (network_apply plain_kind net e).0

  told : (e : Event) → (unready e ≡ true) ↔ Unready e
  told e = (unready_is (network_apply plain_kind net e).0, λ is. ap is_unready is)

  pub each_still : is_still net ≡ true → AllByRecursion Unready (round net.plan)
  unfolding is_still
  each_still is = each_told Unready unready told (round net.plan) is

  pub still_where : (is_still net ≡ true) ↔ StandsStill plain_kind net
  unfolding is_still
  still_where = tells_all Unready unready told (round net.plan)

-- tests that tell the same are the same
pub same_test : (a b : Bool) → (a ≡ true → b ≡ true) → (b ≡ true → a ≡ true) → a ≡ b
same_test true true f g = refl
same_test true false f g = sym (f refl)
same_test false true f g = g refl
same_test false false f g = refl

pub told_still : (net : Network Token) (told : Bool) → ((told ≡ true) ↔ StandsStill plain_kind net) → told ≡ is_still net
told_still net told tells =
    same_test told (is_still net) (λ yes. (still_where net).1 (tells.0 yes)) (λ is. tells.1 ((still_where net).0 is))
