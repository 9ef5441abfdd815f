-- Headers that are refused, and those that come where they should.
use Rattle.c104_check.proofs.{FirstWalkLemmas.fault_first, ShownLemmas.{fault_lands, fault_shown, shown_fails, shown_never}}
use Rattle.c104_check.specs.{Checks.{IsRefusedAt, Shown}, Refusals.{AllLand, IsFirstIn, IsFirstOf, IsRefusal, IsSpared, LandSoFar}}
use Rattle.c104_check.specs.{Refusals.{LandsBefore, LandsFrom, Refusal, Start}, Routes.{IsEntryOf, IsRandomIn, Routes, SwitchPort}}
use Rattle.c104_check.specs.{Routes.{header_count, owner}, Trails.{IsInput, IsNetwork}, Walking.fault_on, Walks.{WalkFault, fault_at}}
use Rattle.{c104_check.specs.{Walks.port_of, declared.walks.Goal.TheVariants.Owner}, c104_plan.specs.declared.ports.Port.Port}
use Rattle.std.proofs.Common.{List, MatchOption, None, Option, Some, [], ap, arith, false, is_some, length, refl, slice_get, subst, sym}
use Rattle.std.proofs.{Common.{true, ℕ, ◌+◌, ◌<◌, ◌∙◌, ◌≡◌}, lemmas.{Bool.cases_lt, Option.same_Some}}

-- a walk that goes on to an entry is the whole walk
pub entry_is : (routes : Routes) (h t : ℕ) (p : SwitchPort) → fault_on routes h (Owner t) [] p ≡ fault_at routes h p (Some t)
entry_is routes h t p = search arith

switch_of : Option Port → ℕ
switch_of (Some (Port.Switch s l)) = s
switch_of (Some (Port.Terminal t)) = 0
switch_of None = 0

link_of : Option Port → ℕ
link_of (Some (Port.Switch s l)) = l
link_of (Some (Port.Terminal t)) = 0
link_of None = 0

-- a terminal has one entry
pub entry_same : (routes : Routes) (t : ℕ) (p q : SwitchPort) → IsEntryOf routes t p → IsEntryOf routes t q → p ≡ q
unfolding switch_of link_of
entry_same routes t p q a b = search (arith, link_of)

-- some start, for a place past the last
abbrev pub no_start : Start
no_start = record { terminal = 0; at = port_of 0 0; behind = false }

pub lands_from : (routes : Routes) (starts : List Start) (h k : ℕ) (start : Start) (o : Option ℕ) → IsNetwork routes → slice_get starts k ≡ Some start → owner routes h ≡ o → fault_at routes h start.at o ≡ None → LandsFrom routes starts h k
lands_from routes starts h k start o net at own is other there = search (arith, same_Some, fault_lands)

pub spared_from : (routes : Routes) (starts : List Start) (h k : ℕ) (start : Start) → slice_get starts k ≡ Some start → owner routes h ≡ None → start.behind ≡ true → IsRandomIn routes h → LandsFrom routes starts h k
spared_from routes starts h k start at own behind random other there = search (arith, same_Some)

pub refused_at : (routes : Routes) (h : ℕ) (q : SwitchPort) (o : Option ℕ) (why : WalkFault) (shown : Shown) → IsNetwork routes → IsInput (length routes.settings) q → owner routes h ≡ o → shown.header ≡ h → fault_at routes h q o ≡ Some (why, shown.walk) → IsRefusedAt routes q why shown
refused_at routes h q o why shown net here own is found =
    let x = shown.header in
    let owned : owner routes x ≡ o = ap (owner routes) is ∙ own in
    let found : fault_at routes x q (owner routes x) ≡ Some (why, shown.walk) = ap (fault_at routes x q) owned ∙ ap (λ n. fault_at routes n q o) is ∙ found in
    let shows = fault_shown routes x q why shown.walk (owner routes x) net here found in
    search (arith, fault_first, shown_fails, shown_never)

pub refusal_from : (routes : Routes) (starts : List Start) (h k : ℕ) (start : Start) (o : Option ℕ) (refusal : Refusal) → IsNetwork routes → IsInput (length routes.settings) start.at → slice_get starts k ≡ Some start → owner routes h ≡ o → refusal.start ≡ k → refusal.shown.entry ≡ start.terminal → refusal.shown.header ≡ h → fault_at routes h start.at o ≡ Some (refusal.why, refusal.shown.walk) → (IsSpared routes h start → ⊥) → IsRefusal routes starts h k refusal
refusal_from routes starts h k start o refusal net here at own number terminal header is not_spared = search (arith, refused_at)

-- one with an owner is not spared
pub owned_spared : (routes : Routes) (h t : ℕ) (start : Start) → owner routes h ≡ Some t → IsSpared routes h start → ⊥
owned_spared routes h t start own spared = let clash : Some t ≡ None = sym own ∙ spared.0 in cc

-- Start by start

pub first_of_starts : (routes : Routes) (starts : List Start) (h k n : ℕ) (refusal : Refusal) → k < n → LandsBefore routes starts h k → IsRefusal routes starts h k refusal → IsFirstOf routes starts h n refusal
first_of_starts routes starts h k n refusal below before refused = search arith

-- what was found at the next start
pub first_found : (routes : Routes) (starts : List Start) (h k n : ℕ) (found : Option Refusal) → is_some found ≡ true → k < n → LandsBefore routes starts h k → MatchOption found (LandsFrom routes starts h k) (IsRefusal routes starts h k) → MatchOption found (LandsBefore routes starts h n) (IsFirstOf routes starts h n)
first_found routes starts h k n None some below before is = absurd cc
first_found routes starts h k n (Some refusal) some below before is = first_of_starts routes starts h k n refusal below before is

-- Header by header

-- the first of what was refused so far, at the starts before n nothing was
abbrev pub IsFirstSoFar : Routes → List Start → ℕ → ℕ → Option Refusal → Type 0
IsFirstSoFar routes starts h n None = n ≡ length starts
IsFirstSoFar routes starts h n (Some refusal) =
    (n ≡ refusal.start) × (refusal.shown.header < h) × IsRefusal routes starts refusal.shown.header refusal.start refusal × ((g : ℕ) → g < refusal.shown.header → LandsFrom routes starts g refusal.start)

pub so_far_kept : (routes : Routes) (starts : List Start) (h n : ℕ) (first : Option Refusal) → IsFirstSoFar routes starts h n first → IsFirstSoFar routes starts (h + 1) n first
so_far_kept routes starts h n first is = search arith

pub land_kept : (routes : Routes) (starts : List Start) (h n : ℕ) → LandSoFar routes starts h n → LandsBefore routes starts h n → LandSoFar routes starts (h + 1) n
land_kept routes starts h n before here g below = search (arith, cases_lt)

pub so_far_next : (routes : Routes) (starts : List Start) (h n : ℕ) (refusal : Refusal) → LandSoFar routes starts h n → IsFirstOf routes starts h n refusal → IsFirstSoFar routes starts (h + 1) refusal.start (Some refusal)
so_far_next routes starts h n refusal before is =
    let same = is.refused.header in
    (refl, omega (arith, same), subst (λ x. IsRefusal routes starts x refusal.start refusal) (sym same) is.refused, λ g lower start at. before g (omega (arith, lower, same)) refusal.start start is.inside at)

pub land_next : (routes : Routes) (starts : List Start) (h n : ℕ) (refusal : Refusal) → LandSoFar routes starts h n → IsFirstOf routes starts h n refusal → LandSoFar routes starts (h + 1) refusal.start
land_next routes starts h n refusal before is =
    land_kept routes starts h refusal.start (λ g lower k start below at. let inside = is.inside in before g lower k start (omega (arith, below, inside)) at) is.before

pub refused_end : (routes : Routes) (starts : List Start) (h n : ℕ) (first : Option Refusal) → h ≡ header_count routes → LandSoFar routes starts h n → IsFirstSoFar routes starts h n first → MatchOption first (AllLand routes starts) (IsFirstIn routes starts)
refused_end routes starts h n None all before is = λ g below k start inside at. before g (omega (arith, below, all)) k start (omega (arith, inside, is)) at
refused_end routes starts h n (Some refusal) all before (at, below, refused, lower) = record {
  below = omega (arith, below, all);
  before = λ g less k start inside there. before g (omega (arith, less, all)) k start (omega (arith, inside, at)) there;
  lower = lower;
  refused = refused;
}
