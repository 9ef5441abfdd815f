-- A header that is tried as a random one, terminal by terminal.
use Rattle.c104_check.proofs.{OwnStarts.{all_landed, lands_front}, RandomLemmas.random_at_told, RefusalLemmas.entry_same}
use Rattle.c104_check.specs.Parts.{HomesFirst, IsFirstRefusal, IsNeverRefused, IsOwnRefusal, IsRandomRefusal, LandsFirst}
use Rattle.c104_check.specs.{Portals.is_random_at, Refusals.{IsFirstOf, LandsBefore, Refusal, Start}, Routes.{Homes, IsEntryOf, IsRandomAt}}
use Rattle.c104_check.specs.{Routes.{Routes, SwitchPort, header_count, most_hops}, Starts.{AreOwnStarts, HomesAt, IsFirstHomeless}}
use Rattle.c104_check.specs.{Starts.{IsHomelessAt, IsRefusedRandom, earlier}, Trails.IsNetwork}
use Rattle.{c104_token.specs.declared.faults.NoMemory.NoMemory, std.proofs.Common.{Bool, IfOk, List, MatchOption, None, Option, Result}}
use Rattle.std.proofs.Common.{Some, arith, false, if◌then◌else◌, inr, is_some, length, nat_le, refl, subst, sym, true, ℕ, ◌+◌, ◌<◌, ◌≡◌}
use Rattle.std.proofs.{Common.◌≤◌, lemmas.Bool.{Decides.nat_tests, cases_lt}}

-- At one terminal

pub never_there : (routes : Routes) (h t : ℕ) (p : SwitchPort) → IsEntryOf routes t p → is_random_at routes p h ≡ false → HomesAt routes h t
never_there routes h t p wired not q there random = search (arith, random_at_told, entry_same)

homeless_found : (routes : Routes) (h t : ℕ) (p : SwitchPort) (found : Option Refusal) → IsEntryOf routes t p → IsRandomAt routes p h → MatchOption found (Homes routes h (most_hops routes) p.switch p.link) (IsRefusedRandom routes t p h) → MatchOption found (HomesAt routes h t) (IsHomelessAt routes h t)
homeless_found routes h t p found wired random homes = search (arith, entry_same)

pub homeless_result : (routes : Routes) (h t : ℕ) (p : SwitchPort) (result : Result (Option Refusal) NoMemory) → IsEntryOf routes t p → IsRandomAt routes p h → IfOk result (λ found. MatchOption found (Homes routes h (most_hops routes) p.switch p.link) (IsRefusedRandom routes t p h)) → IfOk result (λ found. MatchOption found (HomesAt routes h t) (IsHomelessAt routes h t))
homeless_result routes h t p result wired random is = search (arith, homeless_found)

-- At all of them

pub homes_next : (routes : Routes) (h n : ℕ) → HomesFirst routes h n → HomesAt routes h n → HomesFirst routes h (n + 1)
homes_next routes h n before here t p below wired random = search (arith, cases_lt)

pub homes_none : (routes : Routes) (h t : ℕ) (found : Option Refusal) → is_some found ≡ false → MatchOption found (HomesAt routes h t) (IsHomelessAt routes h t) → HomesAt routes h t
homes_none routes h t found none is = search arith

pub first_homeless : (routes : Routes) (h t : ℕ) (found : Option Refusal) (P : Type 0) → is_some found ≡ true → HomesFirst routes h t → MatchOption found (HomesAt routes h t) (IsHomelessAt routes h t) → MatchOption found P (IsFirstHomeless routes h)
first_homeless routes h t found P some before is = search arith

-- What is told of a header that was tried so and at all starts

random_refusal : (routes : Routes) (h : ℕ) (refusal : Refusal) → IsHomelessAt routes h refusal.shown.entry refusal → IsRandomRefusal routes h refusal.why refusal.shown
random_refusal routes h refusal is = search arith

first_before : (routes : Routes) (starts : List Start) (h n : ℕ) (refusal : Refusal) → AreOwnStarts routes starts (length routes.ranges) → IsFirstOf routes starts h n refusal → LandsFirst routes h refusal.shown.entry
first_before routes starts h n refusal are first =
    let refused = first.refused in
    let start = are.each refusal.start refused.start refused.at in
    subst (LandsFirst routes h) (sym refused.terminal) (lands_front routes starts h refusal.start refused.start.terminal start.terminals first.before)

own_refusal : (routes : Routes) (starts : List Start) (h n : ℕ) (refusal : Refusal) → AreOwnStarts routes starts (length routes.ranges) → IsFirstOf routes starts h n refusal → IsOwnRefusal routes h refusal.why refusal.shown
own_refusal routes starts h n refusal are first =
    let refused = first.refused in
    let start = are.each refusal.start refused.start refused.at in
    search arith

-- what holds of all terminals, and of more than some, holds of these
all_own : (routes : Routes) (h n : ℕ) → IsNetwork routes → LandsFirst routes h (length routes.ranges) → LandsFirst routes h n
all_own routes h n net lands t behind p below (entry, wired, kind) = lands t behind p (net.terminals t entry wired) (entry, wired, kind)

all_random : (routes : Routes) (h n : ℕ) → IsNetwork routes → HomesFirst routes h (length routes.ranges) → HomesFirst routes h n
all_random routes h n net homes t p below wired random = homes t p (net.terminals t p wired) wired random

lower_own : (routes : Routes) (h n m : ℕ) → n ≤ m → LandsFirst routes h m → LandsFirst routes h n
lower_own routes h n m low lands t behind p below begins = lands t behind p (omega (arith, low, below)) begins

lower_random : (routes : Routes) (h n m : ℕ) → n ≤ m → HomesFirst routes h m → HomesFirst routes h n
lower_random routes h n m low homes t p below wired random = homes t p (omega (arith, low, below)) wired random

is_low : (n m : ℕ) → nat_le n m ≡ true → n ≤ m
is_low n m is = grind (arith, nat_tests)

is_past : (n m : ℕ) → nat_le n m ≡ false → m + 1 ≤ n
is_past n m is = grind (arith, nat_tests)

module _ (routes : Routes) (starts : List Start) (h n : ℕ) (net : IsNetwork routes) (are : AreOwnStarts routes starts (length routes.ranges)) (past : length starts ≤ n) (low : h < header_count routes) where
  -- a refusal of two is the first
  abbrev pub IsFirst : Refusal → Type 0
  IsFirst refusal = IsFirstRefusal routes h refusal.why refusal.shown

  first_random : (random : Refusal) → IsFirstHomeless routes h random → LandsFirst routes h random.shown.entry → IsFirst random
  first_random random is lands = search (arith, random_refusal)

  first_own : (own : Refusal) → IsFirstOf routes starts h n own → HomesFirst routes h (own.shown.entry + 1) → IsFirst own
  first_own own is homes = record {
    below = low;
    header = is.refused.header;
    own_before = first_before routes starts h n own are is;
    random_before = lower_random routes h own.shown.entry (own.shown.entry + 1) (omega arith) homes;
    here = inr (homes, own_refusal routes starts h n own are is);
  }

  first_by : (random own : Refusal) (b : Bool) → nat_le random.shown.entry own.shown.entry ≡ b → IsFirstHomeless routes h random → IsFirstOf routes starts h n own → MatchOption (if b then Some random else Some own) (IsNeverRefused routes h) IsFirst
  first_by random own true sooner one other = first_random random one (lower_own routes h random.shown.entry own.shown.entry (is_low random.shown.entry own.shown.entry sooner) (first_before routes starts h n own are other))
  first_by random own false not one other = first_own own other (lower_random routes h (own.shown.entry + 1) random.shown.entry (is_past random.shown.entry own.shown.entry not) one.before)

  pub told_first : (random own : Option Refusal) → MatchOption random (HomesFirst routes h (length routes.ranges)) (IsFirstHomeless routes h) → MatchOption own (LandsBefore routes starts h n) (IsFirstOf routes starts h n) → MatchOption (earlier random own) (IsNeverRefused routes h) IsFirst
  told_first None None homes lands = λ below. (all_landed routes starts h n are past lands, homes)
  told_first None (Some own) homes is = first_own own is (all_random routes h (own.shown.entry + 1) net homes)
  told_first (Some random) None is lands = first_random random is (all_own routes h random.shown.entry net (all_landed routes starts h n are past lands))
  told_first (Some random) (Some own) one other = first_by random own (nat_le random.shown.entry own.shown.entry) refl one other
