-- The table of dependencies as it is filled, link by link, input by input and header by header.
use Rattle.c104_check.proofs.{LinkLemmas.place_below, OwnerLemmas.{no_owner, some_owner}, ReachLemmas.{all_just, all_taken_next}}
use Rattle.c104_check.proofs.{RouteLemmas.Some-Link-same, StartLemmas.random_is_randomized, TrailLemmas.{All-found, All-map}}
use Rattle.c104_check.specs.{ChannelDependencies.{DependsBy, IsBeginningBy, IsNeverRandomized, MayComeBy}, Dependencies.AreByBelow}
use Rattle.c104_check.specs.Dependencies.{AreDependencies, AreListedAsOwn, AreListedAsRandom, AreListedAt, AreListedBelow, AreListedFor}
use Rattle.c104_check.specs.Dependencies.{AreListedFrom, Dependency, IsDependencyAt, IsExtended, IsListedOver, dependency_at}
use Rattle.c104_check.specs.{Dependencies.{dependency_place, is_by_from}, Parts.{AreJust, IsReachedAsOwn, IsReachedAsRandom}}
use Rattle.c104_check.specs.{Reach.IsSelected, Routes.{Routes, SwitchPort, is_in_group, owner, to_port}, Trails.{IsInput, Reaches}}
use Rattle.{c104_check.specs.Walks.port_of, c104_crossbar.specs.declared.group.Group.Group, c104_regs.proofs.RegisterLemmas.get_or-same}
use Rattle.std.proofs.Common.{Bool, List, MatchOption, None, Option, Some, ap, arith, drop, false, inl, inr, is_some, length, nat_le}
use Rattle.std.proofs.Common.{replicate, slice_index_or, slice_set, subst, sym, take, true, ℕ, ◌&&◌, ◌*◌, ◌++◌, ◌+◌, ◌<◌, ◌∙◌, ◌≡◌, ◌≢◌}
use Rattle.std.proofs.{Common.◌≤◌, Math.Seq.take-append_seam, lemmas.Bool.{Decides.{eqb_tells, nat_tests}, cases_lt}}
use Rattle.std.{proofs.lemmas.{List.{get_or-set_other, get_or-set_same, length-set}, Option.same_Some}, specs.List.AllByRecursion}

-- one after another
pub extended_more : (routes : Routes) (first limit : ℕ) (old now new : List (Option Dependency)) → IsExtended routes first old now → IsExtended routes limit now new → IsExtended routes limit old new
extended_more routes first limit old now new before here = search arith

-- with a higher limit
pub below_more : (limit : ℕ) (table : List (Option Dependency)) → AreByBelow limit table → AreByBelow (limit + 1) table
below_more limit table low k d there = (let less = low k d there in omega (arith, less))

-- no header is higher than the one of the dependency that takes the place
by_higher : (h : ℕ) (d : Dependency) (o : Option Dependency) → ((e : Dependency) → o ≡ Some e → e.header < d.header + 1) → is_by_from h o ≡ true → nat_le h d.header ≡ true
by_higher h d o low is = search (arith, nat_tests)

-- one dependency
module _ (routes : Routes) (old : List (Option Dependency)) (at : SwitchPort) (o : ℕ) (d : Dependency) (input : IsInput (length routes.settings) at) (link : o < 32) (room : length old ≡ length routes.settings * 32 * 32) (leads : routes.peer (to_port (port_of at.switch o)) ≡ Some (to_port d.next)) (depends : DependsBy routes d.header at d.next) (low : AreByBelow (d.header + 1) old) where
  abbrev filled : List (Option Dependency)
  filled = slice_set old (dependency_place at o) (Some d)

  within_table : dependency_place at o < length old
  within_table = let below = place_below (length routes.settings) at input in omega (arith, below, link, room)

  here : dependency_at filled (dependency_place at o) ≡ Some d
  here = get_or-set_same old (dependency_place at o) (Some d) None within_table

  same_elsewhere : (k : ℕ) → k ≢ dependency_place at o → dependency_at filled k ≡ dependency_at old k
  same_elsewhere k other = get_or-set_other old (dependency_place at o) k (Some d) None other

  pub extended_one : IsExtended routes (d.header + 1) old filled
  extended_one = record {
    room = length-set old (dependency_place at o) (Some d);
    dependencies = λ is k e there. elim (eqb_tells k (dependency_place at o)) [
      | inl same ↦
          let one : Some d ≡ Some e = sym here ∙ ap (dependency_at filled) (sym same.1) ∙ there in
          subst (IsDependencyAt routes k) (same_Some d e one) (at, o, input, link, same.1, leads, depends)
      | inr other ↦ is k e (sym (same_elsewhere k other.1) ∙ there)
    ];
    kept = λ h k is. elim (eqb_tells k (dependency_place at o)) [
      | inl same ↦ ap (is_by_from h) (ap (dependency_at filled) same.1 ∙ here) ∙ by_higher h d (dependency_at old k) (low k) is
      | inr other ↦ ap (is_by_from h) (same_elsewhere k other.1) ∙ is
    ];
    below = λ k e there. elim (eqb_tells k (dependency_place at o)) [
      | inl same ↦
          let one : Some d ≡ Some e = sym here ∙ ap (dependency_at filled) (sym same.1) ∙ there in
          subst (λ (x : Dependency). x.header < d.header + 1) (same_Some d e one) (omega arith)
      | inr other ↦ low k e (sym (same_elsewhere k other.1) ∙ there)
    ];
  }

-- what is listed stays so
pub over_kept : (routes : Routes) (limit : ℕ) (now new : List (Option Dependency)) (h : ℕ) (at link : SwitchPort) → IsExtended routes limit now new → IsListedOver routes now h at link → IsListedOver routes new h at link
over_kept routes limit now new h at link kept is q leads = let one = is q leads in (one.0, kept.kept h (dependency_place at link.link) one.1)

pub at_kept : (routes : Routes) (limit : ℕ) (now new : List (Option Dependency)) (h : ℕ) → IsExtended routes limit now new → (p : SwitchPort) → AreListedAt routes now h p → AreListedAt routes new h p
at_kept routes limit now new h kept p is q follows = let one = is q follows in (one.0, kept.kept h (dependency_place p follows.1) one.1)

pub for_kept : (routes : Routes) (limit : ℕ) (now new : List (Option Dependency)) (h : ℕ) → IsExtended routes limit now new → AreListedFor routes now h → AreListedFor routes new h
for_kept routes limit now new h kept is p arrives = at_kept routes limit now new h kept p (is p arrives)

within_run : (first last o : ℕ) → first ≤ o → o ≤ last → (nat_le first o && nat_le o last) ≡ true
within_run first last o low high = grind (arith, nat_tests)

-- over a link of the group
pub link_depends : (routes : Routes) (h link : ℕ) (group : Group) (p q : SwitchPort) → MayComeBy routes h p → IsSelected routes h p group → group.first ≤ link → link ≤ group.last → routes.peer (to_port (port_of p.switch link)) ≡ Some (to_port q) → DependsBy routes h p q
link_depends routes h link group p q arrives selected low high wired = search (arith, within_run)

-- over one link more
pub from_next : (routes : Routes) (limit h : ℕ) (at : SwitchPort) (first link : ℕ) (now new : List (Option Dependency)) → IsExtended routes limit now new → AreListedFrom routes now h at first link → IsListedOver routes new h at (port_of at.switch link) → AreListedFrom routes new h at first (link + 1)
from_next routes limit h at first link now new kept before here o from below = search (arith, cases_lt, over_kept)

run_within : (first last o : ℕ) → (nat_le first o && nat_le o last) ≡ true → (first ≤ o) × (o ≤ last)
run_within first last o is = (grind (arith, nat_tests), grind (arith, nat_tests))

-- over all links of the group
pub from_all : (routes : Routes) (table : List (Option Dependency)) (h : ℕ) (group : Group) (p : SwitchPort) (end : ℕ) → group.last + 1 ≤ end → IsSelected routes h p group → AreListedFrom routes table h p group.first end → AreListedAt routes table h p
from_all routes table h group p end last selected all q (g, o, selects, inside, wired) =
    let link : g ≡ selected.link = Some-Link-same g selected.link (sym selects ∙ selected.selects) in
    let within = run_within group.first group.last o (sym (selected.members o) ∙ ap (λ k. is_in_group routes p.switch k o) (sym link) ∙ inside) in
    let high = within.1 in
    all o within.0 (omega (arith, last, high)) q wired

-- at one input more
pub at_next : (routes : Routes) (limit h : ℕ) (xs : List SwitchPort) (k : ℕ) (d : SwitchPort) (now new : List (Option Dependency)) → k < length xs → IsExtended routes limit now new → AllByRecursion (AreListedAt routes now h) (take k xs) → AreListedAt routes new h (slice_index_or xs k d) → AllByRecursion (AreListedAt routes new h) (take (k + 1) xs)
at_next routes limit h xs k d now new below kept before here = search (arith, all_taken_next, All-map, at_kept)

-- Where a header may come as the own one of packets, and where as a random one, packets may that go by it

pub own_arrive : (routes : Routes) (h : ℕ) (o : Option ℕ) (xs ys : List SwitchPort) → o ≡ owner routes h → is_some o ≡ true → ys ≡ xs → AreJust (IsReachedAsOwn routes h) xs → AllByRecursion (MayComeBy routes h) ys
own_arrive routes h o xs ys is some same just =
    let owned = some_owner o (owner routes h) is some in
    subst (AllByRecursion (MayComeBy routes h)) (sym same) (all_just (IsReachedAsOwn routes h) (MayComeBy routes h) xs (λ p (x, m, begins, reaches). (x, m, inl (owned.0, owned.1, begins), reaches)) just)

pub random_arrive : (routes : Routes) (h : ℕ) (xs ys : List SwitchPort) → ys ≡ xs → AreJust (IsReachedAsRandom routes h) xs → AllByRecursion (MayComeBy routes h) ys
random_arrive routes h xs ys same just =
    subst (AllByRecursion (MayComeBy routes h)) (sym same) (all_just (IsReachedAsRandom routes h) (MayComeBy routes h) xs (λ p (x, m, begins, reaches). (x, m, inr begins, reaches)) just)

-- at all inputs of which something holds
listed_just : (routes : Routes) (h : ℕ) (P : SwitchPort → Type 0) (xs ys : List SwitchPort) (table : List (Option Dependency)) → ys ≡ xs → AreJust P xs → AllByRecursion (AreListedAt routes table h) ys → (p : SwitchPort) → P p → AreListedAt routes table h p
listed_just routes h P xs ys table same just all p is =
    All-found (AreListedAt routes table h) xs p (subst (AllByRecursion (AreListedAt routes table h)) same all) ((just p).1 is)

pub own_listed : (routes : Routes) (h : ℕ) (xs ys : List SwitchPort) (table : List (Option Dependency)) → ys ≡ xs → AreJust (IsReachedAsOwn routes h) xs → AllByRecursion (AreListedAt routes table h) ys → AreListedAsOwn routes table h
own_listed routes h xs ys table same just all t p owned = listed_just routes h (IsReachedAsOwn routes h) xs ys table same just all p

pub random_listed : (routes : Routes) (h : ℕ) (xs ys : List SwitchPort) (table : List (Option Dependency)) → ys ≡ xs → AreJust (IsReachedAsRandom routes h) xs → AllByRecursion (AreListedAt routes table h) ys → AreListedAsRandom routes table h
random_listed routes h xs ys table same just all = listed_just routes h (IsReachedAsRandom routes h) xs ys table same just all

-- a header without an owner is no packet's own
pub unowned_listed : (routes : Routes) (h : ℕ) (o : Option ℕ) (table : List (Option Dependency)) → o ≡ owner routes h → is_some o ≡ false → AreListedAsOwn routes table h
unowned_listed routes h o table is none t p owned = absurd (no_owner o (owner routes h) is none t owned)

-- where no random headers are put before packets, no header comes as one
pub never_listed : (routes : Routes) (h : ℕ) (table : List (Option Dependency)) → IsNeverRandomized routes → AreListedAsRandom routes table h
never_listed routes h table never p (x, m, (t, wired, random), reaches) = absurd (never x (random_is_randomized routes x h random))

pub never_by : (A : Type 0) (P : SwitchPort → Type 0) (o : Option SwitchPort) (b : Bool) → b ≡ is_some o → MatchOption o A P → b ≡ false → A
never_by A P o b is never none = search arith

-- in both phases
by_part : (routes : Routes) (h m : ℕ) (x p : SwitchPort) (table : List (Option Dependency)) → AreListedAsOwn routes table h → AreListedAsRandom routes table h → IsBeginningBy routes h x → Reaches routes h m x p → AreListedAt routes table h p
by_part routes h m x p table own random (inl (t, owned, begins)) reaches = own t p owned (x, m, begins, reaches)
by_part routes h m x p table own random (inr begins) reaches = random p (x, m, begins, reaches)

pub both_listed : (routes : Routes) (limit h : ℕ) (now new : List (Option Dependency)) → IsExtended routes limit now new → AreListedAsOwn routes now h → AreListedAsRandom routes new h → AreListedFor routes new h
both_listed routes limit h now new kept own random p (x, m, begins, reaches) =
    by_part routes h m x p new (λ t y owned reached. at_kept routes limit now new h kept y (own t y owned reached)) random begins reaches

-- by one header more
pub below_next : (routes : Routes) (limit h : ℕ) (now new : List (Option Dependency)) → IsExtended routes limit now new → AreListedBelow routes now h → AreListedFor routes new h → AreListedBelow routes new (h + 1)
below_next routes limit h now new kept before here k below =
    elim (cases_lt k h) [
      | inl lower ↦ for_kept routes limit now new k kept (before k lower)
      | inr not ↦ let same : h ≡ k = omega (arith, below, not) in subst (AreListedFor routes new) same here
    ]

pub below_all : (routes : Routes) (n end : ℕ) (table : List (Option Dependency)) → n ≤ end → AreListedBelow routes table end → AreListedBelow routes table n
below_all routes n end table over all h below = all h (omega (arith, below, over))

-- a table of none
pub dependencies_none : (routes : Routes) (n : ℕ) → AreDependencies routes (replicate n None)
dependencies_none routes n k d there = search (arith, replicate, get_or-same)

pub by_none : (n : ℕ) → AreByBelow 0 (replicate n None)
by_none n k d there = search (arith, replicate, get_or-same)

-- what a slice of all of a list leaves in it
pub written : {X : Type 0} (items new : List X) (n : ℕ) → n ≡ length new → take n (new ++ drop (length new) items) ≡ new
written items new n same = ap (λ k. take k (new ++ drop (length new) items)) same ∙ take-append_seam new (drop (length new) items)

pub none_only : {X : Type 0} (P : Option X → Type 0) → ((x : X) → P (Some x) → ⊥) → (y : Option X) → P y → y ≡ None
none_only P refused y is = search arith
