-- Random headers that come to portals, one after another.
use Rattle.c104_check.proofs.{BreakLemmas.{homes_alike, random_before}, FirstWalkLemmas.random_first, PortalLemmas.{add_append, add_in}}
use Rattle.c104_check.proofs.{PortalLemmas.{add_known, met_alike}, RandomLemmas.{random_at_tells, random_at_told}, ShownLemmas.random_shown}
use Rattle.c104_check.{proofs.ShownLemmas.shown_homes, specs.{Breaks.{AreBreaks, IsBreak, IsWired, is_marked}, Portals.is_random_at}}
use Rattle.c104_check.specs.{Portals.{met_below, met_from, met_here, met_if}, Refusals.Refusal, Routes.{Homes, IsEntryOf, IsRandomAt}}
use Rattle.c104_check.specs.{Routes.{Routes, SwitchPort, header_count, most_hops, to_port}, Starts.{AllHome, AreKnown, HomeBelow}}
use Rattle.c104_check.specs.{Starts.{IsFirstRandomAt, IsRefusedRandom, add_all}, Trails.{IsInput, IsNetwork}, Walking.fault_on}
use Rattle.c104_check.specs.{Walks.{is_met, random_fault}, declared.walks.Goal.TheVariants.Portal}
use Rattle.{c104_plan.specs.declared.ports.Port.Port, c104_token.specs.declared.faults.NoMemory.NoMemory, std.proofs.Common.{Bool, IfOk}}
use Rattle.std.proofs.Common.{List, MatchOption, None, Option, Result, Some, [], ap, arith, false, inl, is_some, length, refl, subst, suc}
use Rattle.std.{proofs.{Common.{sym, true, zero, ℕ, ◌++◌, ◌+◌, ◌<◌, ◌∙◌, ◌∷◌, ◌≡◌}, lemmas.Bool.cases_lt}, specs.List.AllByRecursion}

pub random_is : (routes : Routes) (r : ℕ) (p : SwitchPort) → fault_on routes r Portal [] p ≡ random_fault routes r p
random_is routes r p = search arith

pub refused_random : (routes : Routes) (t : ℕ) (p : SwitchPort) (r : ℕ) (refusal : Refusal) → IsNetwork routes → IsInput (length routes.settings) p → refusal.shown.entry ≡ t → refusal.shown.header ≡ r → random_fault routes r p ≡ Some (refusal.why, refusal.shown.walk) → IsRefusedRandom routes t p r refusal
refused_random routes t p r refusal net here terminal header is =
    let shows = random_shown routes r p refusal.why refusal.shown.walk net here is in
    record { terminal = terminal; header = header; shows = shows; first = random_first routes r p refusal.why refusal.shown.walk net here is; fails = λ k homes. shown_homes routes r k p refusal.why refusal.shown.walk shows homes }

pub wired_entry : (routes : Routes) (t : ℕ) (p : SwitchPort) → IsNetwork routes → IsEntryOf routes t p → IsWired routes p
wired_entry routes t p net entry = (Port.Terminal t, net.back (Port.Terminal t) (to_port p) entry)

home_next : (routes : Routes) (p : SwitchPort) (h : ℕ) → HomeBelow routes p h → (IsRandomAt routes p h → Homes routes h (most_hops routes) p.switch p.link) → HomeBelow routes p (h + 1)
home_next routes p h before here r below random = search (arith, cases_lt)

-- one that is no break
All-right : {X : Type 0} (P : X → Type 0) (xs ys : List X) → AllByRecursion P (xs ++ ys) → AllByRecursion P ys
All-right P [] ys all = all
All-right P (x ∷ xs) ys all = All-right P xs ys all.1

pub no_zero : (routes : Routes) (marks : List Bool) → AreBreaks routes marks → 0 < header_count routes → is_marked marks 0 ≡ false → ⊥
no_zero routes marks are some not = let first : is_marked marks 0 ≡ true = (are.marked 0 some).1 (inl refl) in let clash : true ≡ false = sym first ∙ not in absurd cc

pub quiet_of : (routes : Routes) (marks : List Bool) (h : ℕ) → AreBreaks routes marks → h < header_count routes → is_marked marks h ≡ false → IsBreak routes h → ⊥
quiet_of routes marks h are below not breaks = let first : is_marked marks h ≡ true = (are.marked h below).1 breaks in let clash : true ≡ false = sym first ∙ not in absurd cc

pub quiet_next : (routes : Routes) (marks : List Bool) (p : SwitchPort) (h : ℕ) → IsNetwork routes → AreBreaks routes marks → h < header_count routes → is_marked marks h ≡ false → IsWired routes p → HomeBelow routes p h → HomeBelow routes p (h + 1)
quiet_next routes marks p zero net are below not wired before = absurd (no_zero routes marks are below not)
quiet_next routes marks p (suc g) net are below not wired before =
    let quiet = quiet_of routes marks (suc g) are below not in
    home_next routes p (suc g) before (λ random. homes_alike routes g net quiet (most_hops routes) p wired (before g (omega arith) (random_before routes g p quiet random)))

pub quiet_met : (routes : Routes) (marks : List Bool) (p : SwitchPort) (h : ℕ) (old : List SwitchPort) → IsNetwork routes → AreBreaks routes marks → h < header_count routes → is_marked marks h ≡ false → is_random_at routes p h ≡ true → IsWired routes p → AreKnown old (met_below routes p h) → old ≡ add_all old (met_here routes p h)
quiet_met routes marks p zero old net are below not random wired known = absurd (no_zero routes marks are below not)
quiet_met routes marks p (suc g) old net are below not random wired known =
    let quiet = quiet_of routes marks (suc g) are below not in
    let earlier : is_random_at routes p g ≡ true = random_at_told routes p g (random_before routes g p quiet (random_at_tells routes p (suc g) below random)) in
    let there : AreKnown old (met_here routes p g) = All-right (λ q. is_met q old ≡ true) (met_below routes p g) (met_here routes p g) known in
    let all : AreKnown old (met_from routes g (most_hops routes) p) = subst (λ b. AreKnown old (met_if b (met_from routes g (most_hops routes) p))) earlier there in
    let same = met_alike routes g net quiet (most_hops routes) p wired in
    let here : met_here routes p (suc g) ≡ met_from routes g (most_hops routes) p = ap (λ b. met_if b (met_from routes (suc g) (most_hops routes) p)) random ∙ same in
    sym (ap (add_all old) here ∙ add_known (met_from routes g (most_hops routes) p) old all)

-- and one that is walked with
pub walked_next : (routes : Routes) (t : ℕ) (p : SwitchPort) (h : ℕ) (found : Option Refusal) → h < header_count routes → is_random_at routes p h ≡ true → HomeBelow routes p h → MatchOption found (Homes routes h (most_hops routes) p.switch p.link) (IsRefusedRandom routes t p h) → MatchOption found (HomeBelow routes p (h + 1)) (IsFirstRandomAt routes t p)
walked_next routes t p h found below random before is = search (arith, home_next, random_at_tells)

pub walked_result : (routes : Routes) (t : ℕ) (p : SwitchPort) (h : ℕ) (result : Result (Option Refusal) NoMemory) → h < header_count routes → is_random_at routes p h ≡ true → HomeBelow routes p h → IfOk result (λ found. MatchOption found (Homes routes h (most_hops routes) p.switch p.link) (IsRefusedRandom routes t p h)) → IfOk result (λ found. MatchOption found (HomeBelow routes p (h + 1)) (IsFirstRandomAt routes t p))
walked_result routes t p h result below random before is = search (arith, walked_next)

-- Header by header

pub met_next : (routes : Routes) (p : SwitchPort) (h : ℕ) (init old new : List SwitchPort) → old ≡ add_all init (met_below routes p h) → new ≡ add_all old (met_here routes p h) → new ≡ add_all init (met_below routes p (h + 1))
met_next routes p h init old new before is = search (arith, add_append)

pub known_all : (init now xs : List SwitchPort) → now ≡ add_all init xs → AreKnown now xs
known_all init now xs is = subst (λ (ys : List SwitchPort). AreKnown ys xs) (sym is) (add_in xs init)

pub home_none : (routes : Routes) (t : ℕ) (p : SwitchPort) (h : ℕ) (found : Option Refusal) → is_some found ≡ false → MatchOption found (HomeBelow routes p h) (IsFirstRandomAt routes t p) → HomeBelow routes p h
home_none routes t p h found none is = search arith

pub is_none_of : (found : Option Refusal) → is_some found ≡ false → found ≡ None
is_none_of found is = search arith

pub all_home : (routes : Routes) (t : ℕ) (p : SwitchPort) (found : Option Refusal) → is_some found ≡ false → MatchOption found (AllHome routes p) (IsFirstRandomAt routes t p) → AllHome routes p
all_home routes t p found none is = search arith

pub homes_of : (routes : Routes) (t r : ℕ) (p : SwitchPort) (found : Option Refusal) → is_some found ≡ false → MatchOption found (Homes routes r (most_hops routes) p.switch p.link) (IsRefusedRandom routes t p r) → Homes routes r (most_hops routes) p.switch p.link
homes_of routes t r p found none is = search arith
