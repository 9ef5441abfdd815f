-- Ranks of more inputs, one by one.
use Rattle.c104_check.specs.Cycles.{AllLeadToRanked, ArePartialRanks, IsDependencyOf, IsRankingPass, unranked_count}
use Rattle.c104_check.specs.{Dependencies.{Dependency, dependency_at}, Ranks.{rank_at, rank_in}, Routes.place}
use Rattle.{c104_regs.proofs.RegisterLemmas.get_or-same, std.proofs.Common.{List, None, Option, Some, [], ap, arith, false, inl, inr}}
use Rattle.std.proofs.Common.{length, refl, replicate, slice_set, subst, suc, sym, true, zero, ℕ, ◌*◌, ◌+◌, ◌-◌, ◌<◌, ◌∙◌, ◌∷◌, ◌≡◌, ◌≢◌}
use Rattle.std.proofs.{Common.◌≤◌, lemmas.{Bool.{Decides.eqb_tells, cases_lt}, List.{get_or-set_other, get_or-set_same, length-set}}}
use Rattle.std.proofs.lemmas.Option.{same_Some}

-- over one link more
pub above_next : (table : List (Option Dependency)) (ranks : List ℕ) (p link most top : ℕ) → ((o : ℕ) (d : Dependency) → o < link → dependency_at table (p * 32 + o) ≡ Some d → rank_in ranks d.next ≤ most) → most ≤ top → ((d : Dependency) → dependency_at table (p * 32 + link) ≡ Some d → rank_in ranks d.next ≤ top) → (o : ℕ) (d : Dependency) → o < link + 1 → dependency_at table (p * 32 + o) ≡ Some d → rank_in ranks d.next ≤ top
above_next table ranks p link most top before up here o d below is = search (arith, cases_lt)

pub above_one : (table : List (Option Dependency)) (ranks : List ℕ) (k top : ℕ) (e : Dependency) → dependency_at table k ≡ Some e → rank_in ranks e.next ≤ top → (d : Dependency) → dependency_at table k ≡ Some d → rank_in ranks d.next ≤ top
above_one table ranks k top e there low d is = subst (λ (x : Dependency). rank_in ranks x.next ≤ top) (same_Some e d (sym there ∙ is)) low

pub above_none : (table : List (Option Dependency)) (ranks : List ℕ) (k top : ℕ) → dependency_at table k ≡ None → (d : Dependency) → dependency_at table k ≡ Some d → rank_in ranks d.next ≤ top
above_none table ranks k top none d is = absurd (let clash : None ≡ Some d = sym none ∙ is in cc)

unranked_set : (xs : List ℕ) (k v : ℕ) → k < length xs → rank_at xs k ≡ 0 → 0 < v → suc (unranked_count (slice_set xs k v)) ≡ unranked_count xs
unranked_set [] k v inside none some = absurd (omega (arith, inside))
unranked_set (x ∷ xs) zero zero inside none some = absurd (omega (arith, some))
unranked_set (zero ∷ xs) zero (suc v) inside none some = refl
unranked_set (suc x ∷ xs) zero (suc v) inside none some = absurd (omega (arith, none))
unranked_set (zero ∷ xs) (suc k) v inside none some = ap suc (unranked_set xs k v (omega (arith, inside)) none some)
unranked_set (suc x ∷ xs) (suc k) v inside none some = unranked_set xs k v (omega (arith, inside)) none some

-- one input is ranked
module _ (table : List (Option Dependency)) (old : List ℕ) (at most : ℕ) (inside : at < length old) (none : rank_at old at ≡ 0) (part : ArePartialRanks table old) (ranked : AllLeadToRanked table old at) (above : (d : Dependency) → IsDependencyOf table at d → rank_in old d.next ≤ most) (least : (limit : ℕ) → ((k : ℕ) → rank_at old k ≤ limit) → most ≤ limit) where
  abbrev after : List ℕ
  after = slice_set old at (most + 1)

  here : rank_at after at ≡ most + 1
  here = get_or-set_same old at (most + 1) 0 inside

  other : (k : ℕ) → k ≢ at → rank_at after k ≡ rank_at old k
  other k apart = get_or-set_other old at k (most + 1) 0 apart

  kept : (k : ℕ) → 0 < rank_at old k → rank_at after k ≡ rank_at old k
  kept k some = other k (λ same. (let is : rank_at old k ≡ 0 = ap (rank_at old) same ∙ none in omega (arith, some, is)))

  count : suc (unranked_count after) ≡ unranked_count old
  count = unranked_set old at (most + 1) inside none (omega arith)

  pub low_most : most + unranked_count old ≤ length old
  low_most =
      let one = part.low at in
      let bound = least (length old - unranked_count old) (λ k. (let l = part.low k in omega (arith, l))) in
      omega (arith, one, bound)

  falls : (p : ℕ) (d : Dependency) → 0 < rank_at after p → IsDependencyOf table p d → (0 < rank_in after d.next) × (rank_in after d.next < rank_at after p)
  falls p d some of = elim (eqb_tells p at) [
    | inl same ↦
        let of_at : IsDependencyOf table at d = subst (λ k. IsDependencyOf table k d) same.1 of in
        let up = ranked d of_at in
        let low = above d of_at in
        let stays = kept (place d.next) up in
        let top : rank_at after p ≡ most + 1 = ap (rank_at after) same.1 ∙ here in
        (omega (arith, up, stays), omega (arith, low, stays, top))
    | inr apart ↦ search (arith, other)
  ]

  low : (p : ℕ) → rank_at after p + unranked_count after ≤ length after
  low p =
      let size : length after ≡ length old = length-set old at (most + 1) in
      elim (eqb_tells p at) [
        | inl same ↦ (let top : rank_at after p ≡ most + 1 = ap (rank_at after) same.1 ∙ here in let l = low_most in omega (arith, top, l, size, count))
        | inr apart ↦ (let as_before = other p apart.1 in let l = part.low p in omega (arith, as_before, l, size, count))
      ]

  pub pass_one : IsRankingPass table old after true
  pass_one = record {
    room = length-set old at (most + 1);
    part = record { falls = falls; low = low };
    fewer = (let c = count in omega (arith, c));
    less = λ _. (let c = count in omega (arith, c));
    same = λ is. absurd (let clash : true ≡ false = is in cc);
  }

unranked_low : (xs : List ℕ) → unranked_count xs ≤ length xs
unranked_low [] = omega arith
unranked_low (zero ∷ xs) = (let rest = unranked_low xs in let goal : suc (unranked_count xs) ≤ suc (length xs) = omega (arith, rest) in goal)
unranked_low (suc x ∷ xs) = (let rest = unranked_low xs in let goal : unranked_count xs ≤ suc (length xs) = omega (arith, rest) in goal)

-- no ranks yet
pub part_none : (table : List (Option Dependency)) (n : ℕ) → ArePartialRanks table (replicate n 0)
part_none table n = search (arith, falls, replicate, get_or-same, low, unranked_low)
