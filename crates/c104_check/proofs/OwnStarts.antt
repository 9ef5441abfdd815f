-- Where own headers begin, terminal by terminal, and a header that is tried there.
use Rattle.c104_check.proofs.{BreakLemmas.{random_before, select_alike}, HomeLemmas.{no_zero, quiet_of, wired_entry}}
use Rattle.c104_check.proofs.{RandomLemmas.{random_at_told, random_header}, ReachLemmas.{all_taken, all_taken_next}}
use Rattle.c104_check.proofs.{RefusalLemmas.entry_same, RouteLemmas.portal_input, StartLemmas.{each_more, get_front, get_last}}
use Rattle.c104_check.proofs.StartLemmas.{lands_behind_at, lands_own, portal_wired, random_is_randomized, reached_wired, take_get}
use Rattle.c104_check.{proofs.TrailLemmas.{All-found, All-map, is_port-true}, specs.Breaks.{AreBreaks, IsBreak, IsWired, is_marked}}
use Rattle.c104_check.specs.{Parts.{AreJust, BeginsAt, IsReachedFrom, LandsFirst, LandsOwn}, Portals.is_random_at, Refusals.AreInputs}
use Rattle.c104_check.specs.{Refusals.{LandsAt, LandsBefore, Start}, Routes.{IsEntryOf, IsPortal, IsRandomAt, IsRandomized, Reaches}}
use Rattle.c104_check.specs.{Routes.{Routes, SwitchPort, header_count, select}, Starts.{AreKept, AreOwnStarts, HasStart, HaveDiscarding}}
use Rattle.c104_check.specs.{Starts.{HaveOwn, HavePortals, IsOwnStart, has_portal, start_at, start_behind, with_portal}, Trails.IsInput}
use Rattle.{c104_check.specs.{Trails.IsNetwork, Walks.is_port}, c104_interval.specs.declared.intervals.Select.TheVariants.Discard}
use Rattle.{c104_token.specs.declared.faults.NoMemory.NoMemory, std.proofs.Common.{Bool, List, OnOk, Result, Some, [], arith, false}}
use Rattle.std.proofs.Common.{if◌then◌else◌, inl, inr, length, refl, slice_index_or, subst, suc, sym, take, true, zero, ℕ, ◌&&◌, ◌++◌, ◌+◌}
use Rattle.std.proofs.{Common.{◌<◌, ◌∙◌, ◌∷◌, ◌≡◌, ◌≤◌}, lemmas.{Bool.{and_parts, cases_lt, or_cases}, Option.slice_get_within}}
use Rattle.std.specs.List.{AllByRecursion}

-- One start more

front_has : (starts : List Start) (y : Start) → AreKept starts (starts ++ y ∷ [])
front_has starts y behind p (k, start, at, here, kind) = (k, start, get_front starts y k start at, here, kind)

last_has : (starts : List Start) (y : Start) → HasStart (starts ++ y ∷ []) y.behind y.at
last_has starts y = (length starts, y, get_last starts y, refl, refl)

own_more : (routes : Routes) (starts : List Start) (n : ℕ) (y : Start) → AreOwnStarts routes starts n → IsOwnStart routes starts y → AreOwnStarts routes (starts ++ y ∷ []) n
own_more routes starts n y are own = record {
  each = each_more (IsOwnStart routes) starts y are.each own;
  have = λ t behind p below begins. front_has starts y behind p (are.have t behind p below begins);
}

pub own_first : (routes : Routes) → AreOwnStarts routes [] 0
own_first routes = search (arith, slice_get_within)

pub own_all : (routes : Routes) (starts : List Start) (n : ℕ) → length routes.ranges ≤ n → AreOwnStarts routes starts n → AreOwnStarts routes starts (length routes.ranges)
own_all routes starts n past are = record {
  each = are.each;
  have = λ t behind p below begins. are.have t behind p (omega (arith, below, past)) begins;
}

pub own_inputs : (routes : Routes) (starts : List Start) (n : ℕ) → AreOwnStarts routes starts n → AreInputs routes starts
own_inputs routes starts n are k start at = (are.each k start at).input

-- A terminal before whose packets no random headers are put

begins_plain : (routes : Routes) (t : ℕ) (p q : SwitchPort) (behind : Bool) → IsEntryOf routes t p → (IsRandomized routes p → ⊥) → BeginsAt routes t behind q → (behind ≡ false) × (p ≡ q)
begins_plain routes t p q behind wired plain begins = search (arith, entry_same, random_is_randomized)

pub own_plain : (routes : Routes) (starts : List Start) (t : ℕ) (p : SwitchPort) → IsNetwork routes → IsEntryOf routes t p → IsInput (length routes.settings) p → (IsRandomized routes p → ⊥) → AreOwnStarts routes starts t → AreOwnStarts routes (starts ++ start_at t p ∷ []) (t + 1)
own_plain routes starts t p net wired here plain are =
    let more = own_more routes starts t (start_at t p) are (record {
      begins = (p, wired, (refl, plain));
      input = (here, wired_entry routes t p net wired);
      terminals = are.have;
    }) in
    record {
      each = more.each;
      have = λ u behind q below begins.
          elim (cases_lt u t) [
            | inl lower ↦ more.have u behind q lower begins
            | inr past ↦
                let same : u ≡ t = omega (arith, below, past) in
                let kind = begins_plain routes t p q behind wired plain (subst (λ n. BeginsAt routes n behind q) same begins) in
                subst (λ b. HasStart (starts ++ start_at t p ∷ []) b q) (sym kind.0) (subst (HasStart (starts ++ start_at t p ∷ []) false) kind.1 (last_has starts (start_at t p)))
          ];
    }

-- One before whose packets they are

have_all : (routes : Routes) (starts : List Start) (t h : ℕ) (p q : SwitchPort) (behind : Bool) → IsEntryOf routes t p → IsRandomized routes p → header_count routes ≤ h → HavePortals routes p starts h → BeginsAt routes t behind q → HasStart starts behind q
have_all routes starts t h p q false wired random past have (entry, there, kind) = search (arith, entry_same)
have_all routes starts t h p q true wired random past have (entry, there, portal) =
    let own = subst (λ x. IsPortal routes x q) (sym (entry_same routes t p entry wired there)) portal in
    let low = random_header routes p own.0 own.2 in
    have own.0 own.1 q (omega (arith, low, past)) own.2 own.3 own.4

pub own_random : (routes : Routes) (starts : List Start) (t h : ℕ) (p : SwitchPort) → IsEntryOf routes t p → IsRandomized routes p → header_count routes ≤ h → HavePortals routes p starts h → AreOwnStarts routes starts t → AreOwnStarts routes starts (t + 1)
own_random routes starts t h p wired random past have are = record {
  each = are.each;
  have = λ u behind q below begins.
      elim (cases_lt u t) [
        | inl lower ↦ are.have u behind q lower begins
        | inr not ↦
            let same : u ≡ t = omega (arith, below, not) in
            have_all routes starts t h p q behind wired random past have (subst (λ n. BeginsAt routes n behind q) same begins)
      ];
}

pub have_none : (routes : Routes) (p : SwitchPort) (starts : List Start) → HavePortals routes p starts 0
have_none routes p starts r m q below random reaches discards = absurd (omega (arith, below))

have_next : (routes : Routes) (p : SwitchPort) (starts : List Start) (h : ℕ) → HavePortals routes p starts h → ((m : ℕ) (q : SwitchPort) → IsRandomAt routes p h → Reaches routes h m p q → select routes q.switch q.link h ≡ Some Discard → HasStart starts true q) → HavePortals routes p starts (h + 1)
have_next routes p starts h before here r m q below random reaches discards =
    elim (cases_lt r h) [
      | inl lower ↦ before r m q lower random reaches discards
      | inr not ↦
          let same : r ≡ h = omega (arith, below, not) in
          here m q (subst (IsRandomAt routes p) same random) (subst (λ n. Reaches routes n m p q) same reaches) (subst (λ n. select routes q.switch q.link n ≡ Some Discard) same discards)
    ]

-- a header that isn't random there
pub have_passed : (routes : Routes) (p : SwitchPort) (starts : List Start) (h : ℕ) → is_random_at routes p h ≡ false → HavePortals routes p starts h → HavePortals routes p starts (h + 1)
have_passed routes p starts h not before = search (arith, have_next, random_at_told)

-- one that is no break goes where the one before it does
reaches_alike : (routes : Routes) (g : ℕ) → IsNetwork routes → (IsBreak routes (suc g) → ⊥) → (m : ℕ) (p q : SwitchPort) → IsWired routes p → Reaches routes (suc g) m p q → Reaches routes g m p q
reaches_alike routes g net quiet zero p q wired same = same
reaches_alike routes g net quiet (suc m) p q wired (z, reaches, (link, o, at, joined, there)) =
    search (arith, select_alike, reached_wired, reaches_alike routes g net quiet m p z wired reaches)

pub have_quiet : (routes : Routes) (marks : List Bool) (p : SwitchPort) (starts : List Start) (h : ℕ) → IsNetwork routes → AreBreaks routes marks → h < header_count routes → is_marked marks h ≡ false → IsWired routes p → HavePortals routes p starts h → HavePortals routes p starts (h + 1)
have_quiet routes marks p starts zero net are below not wired before = absurd (no_zero routes marks are below not)
have_quiet routes marks p starts (suc g) net are below not wired before =
    let quiet = quiet_of routes marks (suc g) are below not in
    have_next routes p starts (suc g) before (λ m q random reaches discards.
    before g m q (omega arith) (random_before routes g p quiet random) (reaches_alike routes g net quiet m p q wired reaches)
    (sym (select_alike routes g q quiet (reached_wired routes (suc g) m p q net wired reaches)) ∙ discards))

-- and one that is walked with
pub have_found : (routes : Routes) (p : SwitchPort) (starts : List Start) (h n : ℕ) (xs : List SwitchPort) → length xs ≤ n → AreJust (IsReachedFrom routes h (λ x. p ≡ x)) xs → AllByRecursion (HaveDiscarding routes h starts) (take n xs) → HavePortals routes p starts h → HavePortals routes p starts (h + 1)
have_found routes p starts h n xs past reached all before =
    have_next routes p starts h before (λ m q random reaches discards.
    All-found (HaveDiscarding routes h starts) xs q (all_taken (HaveDiscarding routes h starts) xs n past all) ((reached q).1 (p, m, refl, reaches)) discards)

pub have_kept : (routes : Routes) (p : SwitchPort) (old new : List Start) (h : ℕ) → AreKept old new → HavePortals routes p old h → HavePortals routes p new h
have_kept routes p old new h kept have r m q below random reaches discards = kept true q (have r m q below random reaches discards)

pub discarding_next : (routes : Routes) (h k : ℕ) (xs : List SwitchPort) (d : SwitchPort) (old new : List Start) → k < length xs → AreKept old new → HaveDiscarding routes h new (slice_index_or xs k d) → AllByRecursion (HaveDiscarding routes h old) (take k xs) → AllByRecursion (HaveDiscarding routes h new) (take (k + 1) xs)
discarding_next routes h k xs d old new below kept here before = search (arith, all_taken_next, All-map)

-- A portal joins

has_later : (starts : List Start) (y : Start) (behind : Bool) (p : SwitchPort) → HasStart starts behind p → HasStart (y ∷ starts) behind p
has_later starts y behind p (k, start, at, here, kind) = (suc k, start, at, here, kind)

has_told : (starts : List Start) (q : SwitchPort) → has_portal q starts ≡ true → HasStart starts true q
has_told [] q is = absurd cc
has_told (y ∷ starts) q is =
    elim (or_cases (y.behind && is_port q y.at) (has_portal q starts) is) [
      | inl here ↦ let both = and_parts y.behind (is_port q y.at) here in (zero, y, refl, sym (is_port-true q y.at both.1), both.0)
      | inr later ↦ has_later starts y true q (has_told starts q later)
    ]

has_by : (starts : List Start) (t : ℕ) (q : SwitchPort) (b : Bool) → has_portal q starts ≡ b → HasStart (if b then starts else starts ++ start_behind t q ∷ []) true q
has_by starts t q true is = has_told starts q is
has_by starts t q false is = last_has starts (start_behind t q)

kept_by : (starts : List Start) (t : ℕ) (q : SwitchPort) (b : Bool) → AreKept starts (if b then starts else starts ++ start_behind t q ∷ [])
kept_by starts t q true = λ behind p has. has
kept_by starts t q false = front_has starts (start_behind t q)

own_by : (routes : Routes) (starts : List Start) (t : ℕ) (p q : SwitchPort) (b : Bool) → IsNetwork routes → IsEntryOf routes t p → IsPortal routes p q → AreOwnStarts routes starts t → AreOwnStarts routes (if b then starts else starts ++ start_behind t q ∷ []) t
own_by routes starts t p q true net wired portal are = are
own_by routes starts t p q false net wired portal are = search (arith, own_more, portal_input, portal_wired, wired_entry)

pub portal_has : (starts new : List Start) (t : ℕ) (q : SwitchPort) → new ≡ with_portal starts t q → HasStart new true q
portal_has starts new t q is = subst (λ (xs : List Start). HasStart xs true q) (sym is) (has_by starts t q (has_portal q starts) refl)

pub portal_kept : (starts new : List Start) (t : ℕ) (q : SwitchPort) → new ≡ with_portal starts t q → AreKept starts new
portal_kept starts new t q is = subst (AreKept starts) (sym is) (kept_by starts t q (has_portal q starts))

pub portal_own : (routes : Routes) (starts new : List Start) (t h : ℕ) (p q : SwitchPort) → IsNetwork routes → IsEntryOf routes t p → IsRandomAt routes p h → IsReachedFrom routes h (λ x. p ≡ x) q → select routes q.switch q.link h ≡ Some Discard → AreOwnStarts routes starts t → new ≡ with_portal starts t q → AreOwnStarts routes new t
portal_own routes starts new t h p q net wired random (x, m, same, reaches) discards are is =
    subst (λ (xs : List Start). AreOwnStarts routes xs t) (sym is)
    (own_by routes starts t p q (has_portal q starts) net wired (h, m, random, subst (λ y. Reaches routes h m y q) (sym same) reaches, discards) are)

on_ok : (A B : Type 0) (result : Result (Unit {0}) NoMemory) → (A → B) → OnOk result A → OnOk result B
on_ok A B result f is = search arith

pub own_result : (routes : Routes) (starts new : List Start) (t h : ℕ) (p q : SwitchPort) (result : Result (Unit {0}) NoMemory) → IsNetwork routes → IsEntryOf routes t p → IsRandomAt routes p h → IsReachedFrom routes h (λ x. p ≡ x) q → select routes q.switch q.link h ≡ Some Discard → AreOwnStarts routes starts t → OnOk result (new ≡ with_portal starts t q) → OnOk result (AreOwnStarts routes new t)
own_result routes starts new t h p q result net wired random reached portal are is = search (arith, on_ok, portal_own)

pub kept_result : (starts new : List Start) (t : ℕ) (q : SwitchPort) (result : Result (Unit {0}) NoMemory) → OnOk result (new ≡ with_portal starts t q) → OnOk result (AreKept starts new)
kept_result starts new t q result = on_ok (new ≡ with_portal starts t q) (AreKept starts new) result (portal_kept starts new t q)

pub have_result : (routes : Routes) (starts new : List Start) (t h : ℕ) (q : SwitchPort) (result : Result (Unit {0}) NoMemory) → OnOk result (new ≡ with_portal starts t q) → OnOk result (HaveDiscarding routes h new q)
have_result routes starts new t h q result = on_ok (new ≡ with_portal starts t q) (HaveDiscarding routes h new q) result (λ is discards. portal_has starts new t q is)

-- What is told of a header that was tried at all starts

lands_begun : (routes : Routes) (h : ℕ) (start : Start) (behind : Bool) (p : SwitchPort) → start.at ≡ p → start.behind ≡ behind → LandsAt routes h start → LandsOwn routes h behind p
lands_begun routes h start behind p here front lands = search (arith, lands_own, lands_behind_at)

pub all_landed : (routes : Routes) (starts : List Start) (h n : ℕ) → AreOwnStarts routes starts (length routes.ranges) → length starts ≤ n → LandsBefore routes starts h n → LandsFirst routes h (length routes.ranges)
all_landed routes starts h n are past lands t behind p below begins =
    let at = are.have t behind p below begins in
    let inside = slice_get_within starts at.0 at.1 at.2 in
    lands_begun routes h at.1 behind p at.3 at.4 (lands at.0 at.1 (omega (arith, inside, past)) at.2)

pub lands_front : (routes : Routes) (starts : List Start) (h k n : ℕ) → HaveOwn routes (take k starts) n → LandsBefore routes starts h k → LandsFirst routes h n
lands_front routes starts h k n have lands t behind p below begins =
    let at = have t behind p below begins in
    let found = take_get starts k at.0 at.1 at.2 in
    lands_begun routes h at.1 behind p at.3 at.4 (lands at.0 at.1 found.0 found.1)
