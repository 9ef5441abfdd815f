-- What things that lead do, in the order of the merge, is at each place the list of that place.
use Rattle.c104_audit.proofs.{Matching.{AreLeading, AreMatched, StandsBefore, all_deeds, at_place, far_deed, lead_deeds}, Merging.each_in}
use Rattle.c104_audit.proofs.Merging.{each_sorted, in_sorted, leads_are, leads_there, merged_leading, one_ticket, same_lists}
use Rattle.{c104_audit.specs.Leads.{AreRising, Lead, leads_from, list_at, merged_leads}, c104_net.proofs.Members.{IsIn, in_left, in_right}}
use Rattle.{c104_run.specs.Runs.IsBefore, std.proofs.Common.{Bool, List, None, Option, Some, [], ap, arith, false, if◌then◌else◌, inl, inr}}
use Rattle.std.proofs.{Common.{nat_eq, refl, subst, sym, true, ℕ, ◌++◌, ◌+◌, ◌<◌, ◌∙◌, ◌∷◌, ◌≡◌, ◌⊎◌}, lemmas.Bool.Decides.nat_tests}
use Rattle.std.specs.List.{AllByRecursion}

-- what is known of each of a merge
pub record IsLeader {X : Type 0} (ticket : X → ℕ) (leads : ℕ → X → Bool) (lists : List (List X)) (m : ℕ × Lead X) : Type 0 where
  pub there : IsIn m.1.entry (list_at lists m.1.place)
  pub leading : leads m.1.place m.1.entry ≡ true
  pub told : m.0 ≡ ticket m.1.entry

module _ {X : Type 0} (ticket : X → ℕ) (leads : ℕ → X → Bool) (lists : List (List X)) where
  pub leaders : (m : ℕ × Lead X) → IsIn m (merged_leads ticket leads lists) → IsLeader ticket leads lists m
  leaders m has = search (arith, each_in, each_sorted, leads_are)

  pub in_merge : (k : ℕ) (x : X) → IsIn x (list_at lists k) → leads k x ≡ true → IsIn (ticket x, record { place = k; entry = x }) (merged_leads ticket leads lists)
  in_merge k x has is =
      let same : k ≡ 0 + k = omega arith in
      in_sorted _ (leads_from ticket leads 0 lists) (subst (λ j. IsIn (ticket x, record { place = j; entry = x }) (leads_from ticket leads 0 lists)) (sym same) (leads_there ticket leads 0 k x lists has (subst (λ j. leads j x ≡ true) same is)))

module _ {X : Type 0} (ticket : X → ℕ) (leads : ℕ → X → Bool) (far : ℕ → X → Option (ℕ × X)) where
  -- a thing that leads does this at a place: it is there, or it is what it does elsewhere
  abbrev pub IsDeedOf : ℕ × Lead X → ℕ → X → Type 0
  IsDeedOf m k z = ((m.1.place ≡ k) × (z ≡ m.1.entry)) ⊎ (far m.1.place m.1.entry ≡ Some (k, z))

  -- what is so of each deed of things that lead is so of what they do at a place
  each_deed : (P : X → Type 0) (k : ℕ) (ms : List (ℕ × Lead X)) → ((m : ℕ × Lead X) → IsIn m ms → (z : X) → IsDeedOf m k z → P z) → AllByRecursion P (at_place k (all_deeds far ms))
  each_deed P k [] all = tt
  each_deed P k (m ∷ ms) all = by_near (each_deed P k ms (λ n has. all n (inr has))) (nat_eq m.1.place k) refl
    where
      by_far : AllByRecursion P (at_place k (all_deeds far ms)) → (o : Option (ℕ × X)) → far m.1.place m.1.entry ≡ o → AllByRecursion P (at_place k (far_deed far o ++ all_deeds far ms))
      by_far rest None is = rest
      by_far rest (Some d) is = by_place (nat_eq d.0 k) refl
        where
          by_place : (b : Bool) → nat_eq d.0 k ≡ b → AllByRecursion P (if b then d.1 ∷ at_place k (all_deeds far ms) else at_place k (all_deeds far ms))
          by_place true at = let same : d.0 ≡ k = grind (arith, nat_tests) in (all m (inl refl) d.1 (inr (is ∙ ap (λ j. Some (j, d.1)) same)), rest)
          by_place false at = rest

      by_near : AllByRecursion P (at_place k (all_deeds far ms)) → (b : Bool) → nat_eq m.1.place k ≡ b → AllByRecursion P (if b then m.1.entry ∷ at_place k (far_deed far (far m.1.place m.1.entry) ++ all_deeds far ms) else at_place k (far_deed far (far m.1.place m.1.entry) ++ all_deeds far ms))
      by_near rest true at = let same : m.1.place ≡ k = grind (arith, nat_tests) in (all m (inl refl) m.1.entry (inl (same, refl)), by_far rest (far m.1.place m.1.entry) refl)
      by_near rest false at = by_far rest (far m.1.place m.1.entry) refl

  -- a thing with a place is at its place
  in_place : (k : ℕ) (z : X) (ds : List (ℕ × X)) → IsIn (k, z) ds → IsIn z (at_place k ds)
  in_place k z [] has = absurd has
  in_place k z (d ∷ ds) has = by_place (in_place k z ds) (nat_eq d.0 k) refl has
    where
      by_place : (IsIn (k, z) ds → IsIn z (at_place k ds)) → (b : Bool) → nat_eq d.0 k ≡ b → IsIn (k, z) (d ∷ ds) → IsIn z (if b then d.1 ∷ at_place k ds else at_place k ds)
      by_place rest b at there = search (arith, nat_tests)

  -- each deed of one that is there is among all
  in_deeds : (k : ℕ) (z : X) (m : ℕ × Lead X) (ms : List (ℕ × Lead X)) → IsIn m ms → IsDeedOf m k z → IsIn (k, z) (all_deeds far ms)
  in_deeds k z m [] has deed = absurd has
  in_deeds k z m (n ∷ ms) (inl same) deed = in_left (k, z) (lead_deeds far n) (all_deeds far ms) (subst (λ (o : ℕ × Lead X). IsIn (k, z) (lead_deeds far o)) same (here deed))
    where
      here : IsDeedOf m k z → IsIn (k, z) (lead_deeds far m)
      here deed = search arith
  in_deeds k z m (n ∷ ms) (inr has) deed = in_right (k, z) (lead_deeds far n) (all_deeds far ms) (in_deeds k z m ms has deed)

  module _ (lists : List (List X)) (matched : AreMatched ticket leads far lists) where
    abbrev Merge : List (ℕ × Lead X)
    Merge = merged_leads ticket leads lists

    abbrev IsLed : ℕ × Lead X → Type 0
    IsLed m = IsLeader ticket leads lists m

    -- what a leader does at a place is in the list there, with its ticket
    record IsDone (m : ℕ × Lead X) (k : ℕ) (z : X) : Type 0 where
      pub there : IsIn z (list_at lists k)
      pub told : m.0 ≡ ticket z

    done : (m : ℕ × Lead X) (k : ℕ) (z : X) → IsLed m → IsDeedOf m k z → IsDone m k z
    done m k z leader (inl is) = search arith
    done m k z leader (inr is) = record {
      there = matched.near m.1.place m.1.entry (k, z) leader.there leader.leading is;
      told = leader.told ∙ sym (matched.same m.1.place m.1.entry (k, z) leader.leading is).0;
    }

    -- what an earlier leader does at a place has an earlier ticket than what a later one does there
    apart : (m n : ℕ × Lead X) (k : ℕ) (z y : X) → IsLed m → IsLed n → StandsBefore m n → IsDeedOf m k z → IsDeedOf n k y → ticket z < ticket y
    apart m n k z y one two before first second = by_order before
      where
        told_one : m.0 ≡ ticket z
        told_one = (done m k z one first).told

        told_two : n.0 ≡ ticket y
        told_two = (done n k y two second).told

        same_thing : m.0 ≡ n.0 → z ≡ y
        same_thing same = one_ticket ticket z y (list_at lists k) (matched.rising k) (done m k z one first).there (done n k y two second).there (sym told_one ∙ same ∙ told_two)

        by_deeds : m.1.place < n.1.place → z ≡ y → IsDeedOf m k z → IsDeedOf n k y → ⊥
        by_deeds less same (inl a) (inl b) = let here = a.0 in let there = b.0 in omega (arith, less, here, there)
        by_deeds less same (inl a) (inr b) =
            let lead : leads k y ≡ true = subst (λ j. leads j y ≡ true) a.0 (subst (λ x. leads m.1.place x ≡ true) (sym a.1 ∙ same) one.leading) in
            let none : leads k y ≡ false = (matched.same n.1.place n.1.entry (k, y) two.leading b).1 in
            let no : true ≡ false = sym lead ∙ none in cc
        by_deeds less same (inr a) (inl b) =
            let lead : leads k z ≡ true = subst (λ j. leads j z ≡ true) b.0 (subst (λ x. leads n.1.place x ≡ true) (sym b.1 ∙ sym same) two.leading) in
            let none : leads k z ≡ false = (matched.same m.1.place m.1.entry (k, z) one.leading a).1 in
            let no : true ≡ false = sym lead ∙ none in cc
        by_deeds less same (inr a) (inr b) =
            let both : m.1.place ≡ n.1.place = matched.once m.1.place n.1.place m.1.entry n.1.entry (k, z) one.leading two.leading a (b ∙ ap (λ x. Some (k, x)) (sym same)) in
            omega (arith, less, both)

        by_order : IsBefore m.0 m.1.place n.0 n.1.place → ticket z < ticket y
        by_order before = search (arith, told_one, told_two, by_deeds, same_thing)

    -- what leaders in order do at a place rises
    deeds_rise : (k : ℕ) (ms : List (ℕ × Lead X)) → ((m : ℕ × Lead X) → IsIn m ms → IsLed m) → AreLeading ms → AreRising ticket (at_place k (all_deeds far ms))
    deeds_rise k [] all leading = tt
    deeds_rise k (m ∷ ms) all leading = by_near (deeds_rise k ms (λ n has. all n (inr has)) leading.1) (nat_eq m.1.place k) refl (far m.1.place m.1.entry) refl
      where
        later : (z : X) → IsDeedOf m k z → AllByRecursion (λ y. ticket z < ticket y) (at_place k (all_deeds far ms))
        later z deed = each_deed (λ y. ticket z < ticket y) k ms (λ n has y other. apart m n k z y (all m (inl refl)) (all n (inr has)) (each_in (StandsBefore m) n ms leading.0 has) deed other)

        by_place : AreRising ticket (at_place k (all_deeds far ms)) → (d : ℕ × X) → far m.1.place m.1.entry ≡ Some d → (b : Bool) → nat_eq d.0 k ≡ b → AreRising ticket (if b then d.1 ∷ at_place k (all_deeds far ms) else at_place k (all_deeds far ms))
        by_place rest d is true at = let same : d.0 ≡ k = grind (arith, nat_tests) in (later d.1 (inr (is ∙ ap (λ j. Some (j, d.1)) same)), rest)
        by_place rest d is false at = rest

        by_far : AreRising ticket (at_place k (all_deeds far ms)) → (o : Option (ℕ × X)) → far m.1.place m.1.entry ≡ o → AreRising ticket (at_place k (far_deed far o ++ all_deeds far ms))
        by_far rest o is = search (arith, by_place)

        by_near : AreRising ticket (at_place k (all_deeds far ms)) → (b : Bool) → nat_eq m.1.place k ≡ b → (o : Option (ℕ × X)) → far m.1.place m.1.entry ≡ o → AreRising ticket (if b then m.1.entry ∷ at_place k (far_deed far o ++ all_deeds far ms) else at_place k (far_deed far o ++ all_deeds far ms))
        by_near rest false at o is = by_far rest o is
        by_near rest true at None is = let same : m.1.place ≡ k = grind (arith, nat_tests) in (later m.1.entry (inl (same, refl)), rest)
        by_near rest true at (Some d) is =
            let same : m.1.place ≡ k = grind (arith, nat_tests) in
            let differs : nat_eq m.1.place d.0 ≡ false = (matched.same m.1.place m.1.entry d (all m (inl refl)).leading is).2 in
            let elsewhere : nat_eq d.0 k ≡ false = grind (arith, nat_tests) in
            rw elsewhere (later m.1.entry (inl (same, refl)), rest)

    -- what the merge does at a place is the list there
    pub merged_lists : (k : ℕ) → at_place k (all_deeds far Merge) ≡ list_at lists k
    merged_lists k = same_lists ticket (at_place k (all_deeds far Merge)) (list_at lists k) (deeds_rise k Merge (leaders ticket leads lists) (merged_leading ticket leads lists matched.rising)) (matched.rising k) there back
      where
        there : (z : X) → IsIn z (at_place k (all_deeds far Merge)) → IsIn z (list_at lists k)
        there z has = each_in (λ y. IsIn y (list_at lists k)) z (at_place k (all_deeds far Merge)) (each_deed (λ y. IsIn y (list_at lists k)) k Merge (λ m in_it y deed. (done m k y (leaders ticket leads lists m in_it) deed).there)) has

        back : (z : X) → IsIn z (list_at lists k) → IsIn z (at_place k (all_deeds far Merge))
        back z has = by_leads (leads k z) refl
          where
            by_leads : (b : Bool) → leads k z ≡ b → IsIn z (at_place k (all_deeds far Merge))
            by_leads true is = in_place k z (all_deeds far Merge) (in_deeds k z _ Merge (in_merge ticket leads lists k z has is) (inl (refl, refl)))
            by_leads false is = let other = matched.away k z has is in in_place k z (all_deeds far Merge) (in_deeds k z _ Merge (in_merge ticket leads lists other.0 other.1 other.2 other.3) (inr other.4))
