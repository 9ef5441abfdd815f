-- The fault that is found depth first is that of the first walk that goes wrong, and where none is found none does.
use Rattle.c104_check.proofs.{GoalLemmas.{comes_home, foreign_comes, foreign_of, no_portal}, RouteLemmas.{IsAmong, Some-Link-same}}
use Rattle.c104_check.proofs.{RouteLemmas.{group_among, group_peers, peers_step, within}, ShownLemmas.{fault_lands, fault_with, no_fault}}
use Rattle.c104_check.proofs.{ShownLemmas.{random_homes, stray_lands, stray_shown, walk_or, why_or}, TrailLemmas.trail_first}
use Rattle.c104_check.{proofs.{TrailLemmas.{trail_longer, trail_room}, WalkLemmas.entry_clear}, specs.FirstWalks.{GoesWrong, GoesWrongFrom}}
use Rattle.c104_check.specs.FirstWalks.{GoesWrongOver, IsFirstWalk, IsStuck, IsToldByWalks, MayLeaveBy, NoneGoesWrong, TakesLower}
use Rattle.c104_check.specs.{Routes.{Homes, Lands, Routes, SwitchPort, is_in_group, most_hops, owner, select}, Shown.{Follows, IsForeign}}
use Rattle.c104_check.specs.{Shown.IsPortalFor, Trails.{IsInput, IsNetwork, IsTrail}, Walks.{Found, Goal, WalkFault, at_peer, at_peers}}
use Rattle.c104_check.specs.Walks.{at_ways, discarded, fault_at, first_fault, first_of, is_home, is_met, peers_that, port_of, random_fault}
use Rattle.c104_check.specs.{Walks.ways_of, declared.{faults.WalkFault.TheVariants.{DeadEnd, Loop, WrongEnd}, walks.Goal.TheVariants.Owner}}
use Rattle.{c104_check.specs.declared.walks.Goal.TheVariants.Portal, c104_interval.specs.declared.intervals.Select.Select}
use Rattle.{c104_interval.specs.declared.intervals.Select.TheVariants.{Discard, Link, Sink}, c104_plan.specs.declared.ports.Port.Port}
use Rattle.std.proofs.Common.{Bool, List, None, Option, Some, [], ap, arith, cond, false, inl, inr, length, option_map, refl, subst, suc}
use Rattle.std.proofs.{Common.{sym, true, zero, ℕ, ◌*◌, ◌++◌, ◌+◌, ◌<◌, ◌∙◌, ◌∷◌, ◌≡◌, ◌≤◌, ◌⊎◌}, lemmas.Bool.{cases_Bool, cases_eq}}
use Rattle.std.proofs.lemmas.{Bool.cases_order, List.length-append}

-- Where nothing is found, no walk goes wrong

none_first : (x y : Found) → first_of x y ≡ None → (x ≡ None) × (y ≡ None)
none_first x y is = search arith

none_among : (further : List SwitchPort → SwitchPort → Found) (t : Goal) (met : List SwitchPort) (e : Option Port) (es : List (Option Port)) → at_peers further t met es ≡ None → IsAmong e es → at_peer further t met e ≡ None
none_among further t met e [] is among = absurd among
none_among further t met e (x ∷ xs) is (inl same) = search (arith, none_first)
none_among further t met e (x ∷ xs) is (inr later) =
    none_among further t met e xs (none_first (at_peer further t met x) (at_peers further t met xs) is).1 later

foreign_home : (t : Goal) (u : ℕ) → IsForeign t u → is_home t u ≡ true → ⊥
foreign_home t u foreign home = foreign_comes (λ s i. ⊥) t u foreign (comes_home (λ s i. ⊥) t u home)

none_discards : (routes : Routes) (h : ℕ) (t : Goal) (further : List SwitchPort → SwitchPort → Found) (met : List SwitchPort) (p : SwitchPort) → select routes p.switch p.link h ≡ Some Discard → at_ways further t met (discarded t) ≡ None → IsPortalFor routes h t p
none_discards routes h t further met p at is = search arith

module _ (routes : Routes) (h : ℕ) (t : Goal) where
  -- what is found from the last of these inputs, with k more
  abbrev found_by : ℕ → List SwitchPort → SwitchPort → Found
  found_by k = first_fault routes h t k

  none_stuck : (k : ℕ) (met : List SwitchPort) (p : SwitchPort) (o : Option Select) → select routes p.switch p.link h ≡ o → at_ways (found_by k) t met (ways_of routes t p.switch o) ≡ None → IsStuck routes h t p → ⊥
  none_stuck k met p o at is stuck = search (arith, none_discards)

  -- over what a link is wired to, if it is so behind it
  abbrev NoneBehind : ℕ → Type 0
  NoneBehind k =
      (links : List ℕ) (why : WalkFault) (walk met : List SwitchPort) (p : SwitchPort) → first_fault routes h t k met p ≡ None → GoesWrong routes h t why walk links met p → ⊥

  none_over : (k : ℕ) → NoneBehind k → (links : List ℕ) (why : WalkFault) (walk met : List SwitchPort) (e : Option Port) → at_peer (first_fault routes h t k) t met e ≡ None → GoesWrongOver (GoesWrong routes h t why walk links) t why walk links met e → ⊥
  none_over k none links why walk met e is goes = search (arith, cases_Bool, foreign_home)

  none_peer : IsNetwork routes → (k : ℕ) (met : List SwitchPort) (p : SwitchPort) (o : ℕ) → MayLeaveBy routes h p o → at_ways (first_fault routes h t k) t met (ways_of routes t p.switch (select routes p.switch p.link h)) ≡ None → at_peer (first_fault routes h t k) t met (routes.peer (Port.Switch p.switch o)) ≡ None
  none_peer net k met p o leaves is = search (arith, none_among, group_among)

pub none_wrong : (routes : Routes) (h : ℕ) (t : Goal) → IsNetwork routes → (k : ℕ) (links : List ℕ) (why : WalkFault) (walk met : List SwitchPort) (p : SwitchPort) → first_fault routes h t k met p ≡ None → GoesWrong routes h t why walk links met p → ⊥
none_wrong routes h t net zero links why walk met p is goes = absurd cc
none_wrong routes h t net (suc k) [] why walk met p is goes = none_stuck routes h t k met p (select routes p.switch p.link h) refl is goes.2
none_wrong routes h t net (suc k) (o ∷ links) why walk met p is (leaves, goes) =
    none_over routes h t k (none_wrong routes h t net k) links why walk met (routes.peer (Port.Switch p.switch o)) (none_peer routes h t net k met p o leaves is) goes

-- What is found is found at the first link where anything is

module _ (routes : Routes) (further : List SwitchPort → SwitchPort → Found) (t : Goal) (met : List SwitchPort) (s : ℕ) (test : ℕ → Bool) (x : WalkFault × List SwitchPort) where
  -- what is found by a link, and by the n links from one on that pass
  abbrev by_link : ℕ → Found
  by_link o = at_peer further t met (routes.peer (Port.Switch s o))

  abbrev by_links : ℕ → ℕ → Found
  by_links from n = at_peers further t met (peers_that routes s test from n)

  -- of the links from one on that pass
  abbrev pub IsFoundFrom : ℕ → Type 0
  IsFoundFrom from =
      (o : ℕ) × (from ≤ o) × (test o ≡ true) × (by_link o ≡ Some x) × ((l : ℕ) → from ≤ l → l < o → test l ≡ true → by_link l ≡ None)

  -- it is not at the first of these
  found_later : (from : ℕ) → (test from ≡ true → by_link from ≡ None) → IsFoundFrom (from + 1) → IsFoundFrom from
  found_later from none later = search (arith, cases_eq)

  found_here : (from n : ℕ) (y : Found) → test from ≡ true → by_link from ≡ y → (by_links (from + 1) n ≡ Some x → IsFoundFrom (from + 1)) → first_of y (by_links (from + 1) n) ≡ Some x → IsFoundFrom from
  found_here from n y passes at later is = search (arith, found_later)

  found_step : (from n : ℕ) (b : Bool) → test from ≡ b → (by_links (from + 1) n ≡ Some x → IsFoundFrom (from + 1)) → at_peers further t met (cond b (routes.peer (Port.Switch s from) ∷ peers_that routes s test (from + 1) n) (peers_that routes s test (from + 1) n)) ≡ Some x → IsFoundFrom from
  found_step from n b passes later is = search (arith, found_here, found_later)

  pub first_found : (n from : ℕ) → by_links from n ≡ Some x → IsFoundFrom from
  first_found zero from is = absurd cc
  first_found (suc n) from is = search (arith, found_step, peers_step, first_found n (from + 1))

-- So it is that of the first walk

never_lower : (others : List ℕ) → TakesLower others [] → ⊥
never_lower [] lower = lower
never_lower (o ∷ others) lower = lower

module _ (routes : Routes) (h : ℕ) (t : Goal) (why : WalkFault) (walk : List SwitchPort) where
  -- a header that has met these inputs goes wrong first by these links
  abbrev GoesFirst : List ℕ → List SwitchPort → SwitchPort → Type 0
  GoesFirst links met p =
      GoesWrong routes h t why walk links met p × ((others : List ℕ) (fault : WalkFault) (other : List SwitchPort) → TakesLower others links → GoesWrong routes h t fault other others met p → ⊥)

  abbrev pub HasFirst : List SwitchPort → SwitchPort → Type 0
  HasFirst met p = (links : List ℕ) × GoesFirst links met p

  module _ (met : List SwitchPort) (p : SwitchPort) where
    first_stuck : IsStuck routes h t p → fault_with DeadEnd met ≡ fault_with why walk → HasFirst met p
    first_stuck stuck is = search (arith, never_lower)

    first_discard : (k : ℕ) → select routes p.switch p.link h ≡ Some Discard → (goal : Goal) → t ≡ goal → at_ways (first_fault routes h t k) t met (discarded goal) ≡ Some (why, walk) → HasFirst met p
    first_discard k at goal same is = search (arith, first_stuck)

    module _ (o : ℕ) where
      -- it goes wrong by a fault over link o and others
      abbrev GoesBy : WalkFault → List SwitchPort → List ℕ → Option Port → Type 0
      GoesBy fault other others e = GoesWrongOver (GoesWrong routes h t fault other others) t fault other others met e

      abbrev NoneBy : List ℕ → Option Port → Type 0
      NoneBy links e = (others : List ℕ) (fault : WalkFault) (other : List SwitchPort) → TakesLower others links → GoesBy fault other others e → ⊥

      abbrev NoneLower : Type 0
      NoneLower =
          (l : ℕ) (others : List ℕ) (fault : WalkFault) (other : List SwitchPort) → l < o → MayLeaveBy routes h p l → GoesBy fault other others (routes.peer (Port.Switch p.switch l)) → ⊥

      none_before_by : (links others : List ℕ) (fault : WalkFault) (other : List SwitchPort) → NoneLower → NoneBy links (routes.peer (Port.Switch p.switch o)) → TakesLower others (o ∷ links) → GoesWrong routes h t fault other others met p → ⊥
      none_before_by links [] fault other below after lower goes = lower
      none_before_by links (l ∷ others) fault other below after (inl lower) (leaves, goes) = below l others fault other lower leaves goes
      none_before_by links (l ∷ others) fault other below after (inr (same, lower)) (leaves, goes) =
          after others fault other lower (subst (λ n. GoesBy fault other others (routes.peer (Port.Switch p.switch n))) same goes)

      first_by : (links : List ℕ) (e : Option Port) → MayLeaveBy routes h p o → NoneLower → routes.peer (Port.Switch p.switch o) ≡ e → GoesBy why walk links e → NoneBy links e → HasFirst met p
      first_by links e leaves below at goes after = (
        o ∷ links,
        ((leaves, subst (GoesBy why walk links) (sym at) goes), λ others fault other lower wrong. none_before_by links others fault other below (subst (NoneBy links) (sym at) after) lower wrong),
      )

      -- over an input that wasn't met
      after_new : (s i : ℕ) (links : List ℕ) → is_met (port_of s i) met ≡ false → ((others : List ℕ) (fault : WalkFault) (other : List SwitchPort) → TakesLower others links → GoesWrong routes h t fault other others (met ++ (port_of s i ∷ [])) (port_of s i) → ⊥) → NoneBy links (Some (Port.Switch s i))
      after_new s i links new none = search arith

      first_end : (k : ℕ) (e : Option Port) → MayLeaveBy routes h p o → NoneLower → routes.peer (Port.Switch p.switch o) ≡ e → ((q : SwitchPort) → Follows routes h p q → is_met q met ≡ false → first_fault routes h t k (met ++ (q ∷ [])) q ≡ Some (why, walk) → HasFirst (met ++ (q ∷ [])) q) → at_peer (first_fault routes h t k) t met e ≡ Some (why, walk) → HasFirst met p
      first_end k None leaves below at each is =
          first_by [] None leaves below at (refl, sym (ap (why_or Loop) is), sym (ap (walk_or []) is)) (λ others fault other lower goes. never_lower others lower)
      first_end k (Some (Port.Terminal u)) leaves below at each is =
          elim (cases_Bool (is_home t u)) [
            | inl home ↦ absurd (no_fault u t met why walk home is)
            | inr differ ↦
                let found : fault_with WrongEnd met ≡ fault_with why walk = rw differ at is in
                first_by [] (Some (Port.Terminal u)) leaves below at (refl, sym (ap (why_or Loop) found), sym (ap (walk_or []) found), foreign_of t u differ) (λ others fault other lower goes. never_lower others lower)
          ]
      first_end k (Some (Port.Switch s i)) leaves below at each is =
          elim (cases_Bool (is_met (port_of s i) met)) [
            | inl again ↦
                let found : fault_with Loop (met ++ (port_of s i ∷ [])) ≡ fault_with why walk = rw again at is in
                first_by [] (Some (Port.Switch s i)) leaves below at (inl (refl, sym (ap (why_or DeadEnd) found), sym (ap (walk_or []) found), again)) (λ others fault other lower goes. never_lower others lower)
            | inr new ↦
                let rest = each (port_of s i) (leaves.0, o, leaves.1, leaves.2, at) new (rw new at is) in
                first_by rest.0 (Some (Port.Switch s i)) leaves below at (inr (new, rest.1.0)) (after_new s i rest.0 new rest.1.1)
          ]

    abbrev EachFirst : ℕ → Type 0
    EachFirst k =
        (q : SwitchPort) → Follows routes h p q → is_met q met ≡ false → first_fault routes h t k (met ++ (q ∷ [])) q ≡ Some (why, walk) → HasFirst (met ++ (q ∷ [])) q

    -- below a link where the first fault is found, no link of the group leads wrong
    none_below : IsNetwork routes → (k g o : ℕ) → select routes p.switch p.link h ≡ Some (Link g) → ((l : ℕ) → 0 ≤ l → l < o → is_in_group routes p.switch g l ≡ true → at_peer (first_fault routes h t k) t met (routes.peer (Port.Switch p.switch l)) ≡ None) → NoneLower o
    none_below net k g o at before l others fault other lower (g', also, joined) goes =
        search (arith, Some-Link-same, none_over, none_wrong)

    first_group : IsNetwork routes → (k g : ℕ) → select routes p.switch p.link h ≡ Some (Link g) → EachFirst k → at_peers (first_fault routes h t k) t met (group_peers routes p.switch g) ≡ Some (why, walk) → HasFirst met p
    first_group net k g at each is =
        let (o, low, joined, found, before) = first_found routes (first_fault routes h t k) t met p.switch (is_in_group routes p.switch g) (why, walk) 32 0 is in
        first_end o k (routes.peer (Port.Switch p.switch o)) (g, at, joined) (none_below net k g o at before) refl each found

    first_input : IsNetwork routes → (k : ℕ) (s : Option Select) → select routes p.switch p.link h ≡ s → EachFirst k → at_ways (first_fault routes h t k) t met (ways_of routes t p.switch s) ≡ Some (why, walk) → HasFirst met p
    first_input net k None at each is = first_stuck ((λ g link. let clash : None ≡ Some (Link g) = sym at ∙ link in cc), no_portal routes h t p None at (λ e. cc)) is
    first_input net k (Some Discard) at each is = first_discard k at t refl is
    first_input net k (Some Sink) at each is = first_stuck ((λ g link. let clash : Some Sink ≡ Some (Link g) = sym at ∙ link in cc), no_portal routes h t p (Some Sink) at (λ e. cc)) is
    first_input net k (Some (Link g)) at each is = first_group net k g at each is

pub first_wrong : (routes : Routes) (h : ℕ) (t : Goal) → IsNetwork routes → (why : WalkFault) (walk : List SwitchPort) (k : ℕ) (met : List SwitchPort) (p : SwitchPort) → IsTrail routes h met p → length met + k ≡ 32 * length routes.settings + 1 → first_fault routes h t k met p ≡ Some (why, walk) → HasFirst routes h t why walk met p
first_wrong routes h t net why walk zero met p trail room is = search (arith, trail_room)
first_wrong routes h t net why walk (suc k) met p trail room is =
    first_input routes h t why walk met p net k (select routes p.switch p.link h) refl
    (λ q follows new found. first_wrong routes h t net why walk k (met ++ (q ∷ [])) q (trail_longer routes h met p q trail follows (within routes h p q net follows) new) (let e = length-append met (q ∷ []) in omega (arith, e, room)) found)
    is

-- At an entry

pub goal_first : (routes : Routes) (h : ℕ) (t : Goal) (p : SwitchPort) (why : WalkFault) (walk : List SwitchPort) → IsNetwork routes → IsInput (length routes.settings) p → first_fault routes h t (32 * length routes.settings) (p ∷ []) p ≡ Some (why, walk) → IsFirstWalk routes h (Some t) p why walk
goal_first routes h t p why walk net here is =
    let found = first_wrong routes h t net why walk (32 * length routes.settings) (p ∷ []) p (trail_first routes h p here) (omega arith) is in
    record { links = found.0; goes_wrong = found.1.0; none_before = found.1.1 }

pub fault_first : (routes : Routes) (h : ℕ) (p : SwitchPort) (why : WalkFault) (walk : List SwitchPort) (o : Option ℕ) → IsNetwork routes → IsInput (length routes.settings) p → fault_at routes h p o ≡ Some (why, walk) → IsFirstWalk routes h (option_map Owner o) p why walk
fault_first routes h p why walk o net here is = search (arith, stray_shown, never_lower, goal_first)

pub random_first : (routes : Routes) (r : ℕ) (p : SwitchPort) (why : WalkFault) (walk : List SwitchPort) → IsNetwork routes → IsInput (length routes.settings) p → random_fault routes r p ≡ Some (why, walk) → IsFirstWalk routes r (Some Portal) p why walk
random_first routes r p why walk net here is = goal_first routes r Portal p why walk net here is

-- Where none is found, no walk goes wrong, and the header comes where it should

fault_none : (routes : Routes) (h : ℕ) (p : SwitchPort) (o : Option ℕ) → IsNetwork routes → fault_at routes h p o ≡ None → NoneGoesWrong routes h (option_map Owner o) p
fault_none routes h p o net is = search (arith, stray_lands, none_wrong)

random_none : (routes : Routes) (r : ℕ) (p : SwitchPort) → IsNetwork routes → random_fault routes r p ≡ None → NoneGoesWrong routes r (Some Portal) p
random_none routes r p net is why walk links goes = none_wrong routes r Portal net (32 * length routes.settings) links why walk (p ∷ []) p is goes

lands_none : (routes : Routes) (h : ℕ) (p : SwitchPort) (o : Option ℕ) → IsNetwork routes → IsInput (length routes.settings) p → Lands routes h p o → NoneGoesWrong routes h (option_map Owner o) p
lands_none routes h p None net here lands = λ why walk links goes. goes.3 lands
lands_none routes h p (Some t) net here lands = fault_none routes h p (Some t) net (entry_clear routes h (Owner t) (most_hops routes) p net here lands)

none_lands : (routes : Routes) (h : ℕ) (p : SwitchPort) (o : Option ℕ) → IsNetwork routes → IsInput (length routes.settings) p → NoneGoesWrong routes h (option_map Owner o) p → (found : Found) → fault_at routes h p o ≡ found → Lands routes h p o
none_lands routes h p o net here none None is = fault_lands routes h p o net is
none_lands routes h p o net here none (Some (why, walk)) is =
    let first = fault_first routes h p why walk o net here is in
    absurd (none why walk first.links first.goes_wrong)

none_homes : (routes : Routes) (r : ℕ) (p : SwitchPort) → IsNetwork routes → IsInput (length routes.settings) p → NoneGoesWrong routes r (Some Portal) p → (found : Found) → random_fault routes r p ≡ found → Homes routes r (most_hops routes) p.switch p.link
none_homes routes r p net here none None is = random_homes routes r p net is
none_homes routes r p net here none (Some (why, walk)) is =
    let first = random_first routes r p why walk net here is in
    absurd (none why walk first.links first.goes_wrong)

-- One walk alone is first

-- two walks that go wrong part, or are one
abbrev PartOrSame : List ℕ → List ℕ → WalkFault → WalkFault → List SwitchPort → List SwitchPort → Type 0
PartOrSame links others why fault walk other =
    TakesLower links others ⊎ (TakesLower others links ⊎ ((fault ≡ why) × (other ≡ walk)))

part_on : (o : ℕ) (links others : List ℕ) (why fault : WalkFault) (walk other : List SwitchPort) → PartOrSame links others why fault walk other → PartOrSame (o ∷ links) (o ∷ others) why fault walk other
part_on o links others why fault walk other part = search arith

part_over : (routes : Routes) (h : ℕ) (t : Goal) (links others : List ℕ) (why fault : WalkFault) (walk other met : List SwitchPort) → ((w : List SwitchPort) (q : SwitchPort) → GoesWrong routes h t why walk links w q → GoesWrong routes h t fault other others w q → PartOrSame links others why fault walk other) → (e : Option Port) → GoesWrongOver (GoesWrong routes h t why walk links) t why walk links met e → GoesWrongOver (GoesWrong routes h t fault other others) t fault other others met e → PartOrSame links others why fault walk other
part_over routes h t links others why fault walk other met further e one two = search arith

part_or_same : (routes : Routes) (h : ℕ) (t : Goal) (links others : List ℕ) (why fault : WalkFault) (walk other met : List SwitchPort) (p : SwitchPort) → GoesWrong routes h t why walk links met p → GoesWrong routes h t fault other others met p → PartOrSame links others why fault walk other
part_or_same routes h t [] [] why fault walk other met p (a, b, c) (x, y, z) = inr (inr (x ∙ sym a, y ∙ sym b))
part_or_same routes h t [] (l ∷ others) why fault walk other met p (a, b, stuck) (leaves, goes) = absurd (stuck.0 leaves.0 leaves.1)
part_or_same routes h t (o ∷ links) [] why fault walk other met p (leaves, goes) (x, y, stuck) = absurd (stuck.0 leaves.0 leaves.1)
part_or_same routes h t (o ∷ links) (l ∷ others) why fault walk other met p (leaves, goes) (also, goes') =
    search (arith, cases_order, part_on, part_over, part_or_same routes h t links others why fault walk other)

part_from : (routes : Routes) (h : ℕ) (goal : Option Goal) (p : SwitchPort) (links others : List ℕ) (why fault : WalkFault) (walk other : List SwitchPort) → GoesWrongFrom routes h goal p why walk links → GoesWrongFrom routes h goal p fault other others → PartOrSame links others why fault walk other
part_from routes h goal p links others why fault walk other a x = search (arith, part_or_same)

one_first : (routes : Routes) (h : ℕ) (goal : Option Goal) (p : SwitchPort) (why fault : WalkFault) (walk other : List SwitchPort) → IsFirstWalk routes h goal p why walk → IsFirstWalk routes h goal p fault other → (fault ≡ why) × (other ≡ walk)
one_first routes h goal p why fault walk other a b = search (arith, part_from)

pub told_by_walks : (routes : Routes) → IsNetwork routes → IsToldByWalks routes
told_by_walks routes net = record {
  lands = λ h p here. (lands_none routes h p (owner routes h) net here, λ none. none_lands routes h p (owner routes h) net here none (fault_at routes h p (owner routes h)) refl);
  homes = λ r p here. (λ homes. random_none routes r p net (entry_clear routes r Portal (most_hops routes) p net here homes), λ none. none_homes routes r p net here none (random_fault routes r p) refl);
  one_first = one_first routes;
}
