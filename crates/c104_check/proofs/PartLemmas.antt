-- The two phases of packets' ways.
use Rattle.c104_check.proofs.{RandomLemmas.random_header, ReachLemmas.{just_alike, just_joined, just_none, none_found}}
use Rattle.c104_check.{proofs.StartLemmas.random_is_randomized, specs.{ChannelDependencies.IsNeverRandomized, Parts.{AreJust, Begins, Has}}}
use Rattle.c104_check.specs.Parts.{IsBeginning, IsDiscardedAt, IsRandomBeginning, IsReachedAsOwn, IsReachedAsRandom, IsReachedFrom}
use Rattle.c104_check.specs.{Parts.{IsTakenAsOwn, IsTakenAsRandom, IsTakenFrom}, Reach.{AreDistinctInputs, IsReached, IsTaken, MayTake}}
use Rattle.c104_check.specs.{Reach.with_input, Refusals.Start, Routes.{IsEntryOf, Reaches, Routes, SwitchPort, header_count, select}}
use Rattle.c104_check.specs.{Starts.AreOwnStarts, Trails.{IsInput, IsNetwork}}
use Rattle.{c104_interval.specs.declared.intervals.Select.TheVariants.Discard, std.proofs.Common.{Bool, IsTrue, List, Some, [], arith}}
use Rattle.std.proofs.Common.{false, inl, inr, length, refl, slice_get, subst, sym, true, ℕ, ◌+◌, ◌<◌, ◌↔◌, ◌≡◌, ◌≤◌}
use Rattle.std.proofs.lemmas.{Bool.cases_lt, Option.{same_Some, slice_get_within}}

-- The links that are taken from just the inputs that are reached

pub taken_by : (routes : Routes) (h : ℕ) (from : SwitchPort → Type 0) (xs : List SwitchPort) (q : SwitchPort) → AreJust (IsReachedFrom routes h from) xs → ((p : SwitchPort) × Has xs p × MayTake routes h p q) ↔ IsTakenFrom routes h from q
taken_by routes h from xs q just = (λ (p, has, may). (p, (just p).0 has, may), λ (p, reached, may). (p, (just p).1 reached, may))

pub iff_on : (A B C : Type 0) → A ↔ B → B ↔ C → A ↔ C
iff_on A B C one two = (λ a. two.0 (one.0 a), λ c. one.1 (two.1 c))

pub own_taken : (routes : Routes) (h : ℕ) (own xs : List SwitchPort) (q : SwitchPort) (b : Bool) → xs ≡ own → AreJust (IsReachedAsOwn routes h) own → IsTrue b ↔ ((p : SwitchPort) × Has xs p × MayTake routes h p q) → IsTrue b ↔ IsTakenAsOwn routes h q
own_taken routes h own xs q b is just tells = search (arith, iff_on, taken_by)

pub random_taken : (routes : Routes) (h : ℕ) (random xs : List SwitchPort) (q : SwitchPort) (b : Bool) → xs ≡ random → AreJust (IsReachedAsRandom routes h) random → IsTrue b ↔ ((p : SwitchPort) × Has xs p × MayTake routes h p q) → IsTrue b ↔ IsTakenAsRandom routes h q
random_taken routes h random xs q b is just tells = search (arith, iff_on, taken_by)

-- where no random headers are put before packets
pub reached_plain : (routes : Routes) (h m : ℕ) (x p : SwitchPort) → IsNeverRandomized routes → (t : ℕ) (behind : Bool) (entry : SwitchPort) → IsEntryOf routes t entry → Begins routes entry behind x → Reaches routes h m x p → IsReached routes h p
reached_plain routes h m x p never t false entry wired kind reaches = (t, entry, m, wired, subst (λ y. Reaches routes h m y p) kind.0 reaches)
reached_plain routes h m x p never t true entry wired portal reaches = absurd (never entry (random_is_randomized routes entry portal.0 portal.2))

taken_plain : (routes : Routes) (h : ℕ) (q : SwitchPort) → IsNeverRandomized routes → IsTakenAsOwn routes h q ↔ IsTaken routes h q
taken_plain routes h q never = (
  λ (p, (x, m, (t, behind, (entry, wired, kind)), reaches), may). (p, reached_plain routes h m x p never t behind entry wired kind reaches, may),
  λ (p, (t, entry, m, wired, reaches), may). (p, (entry, m, (t, false, (entry, wired, (refl, never entry))), reaches), may),
)

pub plain_taken : (routes : Routes) (h : ℕ) (q : SwitchPort) (b : Bool) → IsTrue b ↔ IsTakenAsOwn routes h q → IsNeverRandomized routes → IsTrue b ↔ IsTaken routes h q
plain_taken routes h q b tells never = iff_on (IsTrue b) (IsTakenAsOwn routes h q) (IsTaken routes h q) tells (taken_plain routes h q never)

none_random : (routes : Routes) (h : ℕ) (p : SwitchPort) → IsNeverRandomized routes → IsReachedAsRandom routes h p → ⊥
none_random routes h p never (x, m, (t, wired, random), reaches) = never x (random_is_randomized routes x h random)

is_false : (b : Bool) → (IsTrue b → ⊥) → b ≡ false
is_false b not = search arith

pub none_taken : (routes : Routes) (h : ℕ) (q : SwitchPort) (b : Bool) → IsTrue b ↔ IsTakenAsRandom routes h q → IsNeverRandomized routes → b ≡ false
none_taken routes h q b tells never = is_false b (λ holds. let taken = tells.0 holds in none_random routes h taken.0 never taken.1)

pub none_discarded : (routes : Routes) (h : ℕ) (q : SwitchPort) (b : Bool) → IsTrue b ↔ IsDiscardedAt routes h q → IsNeverRandomized routes → b ≡ false
none_discarded routes h q b tells never = is_false b (λ holds. none_random routes h q never (tells.0 holds).0)

-- A portal among just the inputs that are reached
pub portal_told : (routes : Routes) (h : ℕ) (random xs : List SwitchPort) (q : SwitchPort) (b : Bool) → xs ≡ random → AreJust (IsReachedAsRandom routes h) random → IsTrue b ↔ (Has xs q × (select routes q.switch q.link h ≡ Some Discard)) → IsTrue b ↔ IsDiscardedAt routes h q
portal_told routes h random xs q b is just tells = search (arith, iff_on)

-- The inputs at which own headers begin

-- those of the first k starts
abbrev pub IsStartBefore : List Start → ℕ → SwitchPort → Type 0
IsStartBefore starts k p = (j : ℕ) × (start : Start) × (j < k) × (slice_get starts j ≡ Some start) × (start.at ≡ p)

pub starts_none : (routes : Routes) (starts : List Start) (xs : List SwitchPort) → xs ≡ [] → AreDistinctInputs routes xs × AreJust (IsStartBefore starts 0) xs
starts_none routes starts xs is = (
  subst (AreDistinctInputs routes) (sym is) (none_found routes),
  subst (AreJust (IsStartBefore starts 0)) (sym is) (just_none (IsStartBefore starts 0) (λ p (j, start, below, at, here). omega (arith, below))),
)

pub start_joined : (routes : Routes) (starts : List Start) (k : ℕ) (start : Start) (xs new : List SwitchPort) → slice_get starts k ≡ Some start → AreOwnStarts routes starts (length routes.ranges) → AreDistinctInputs routes xs → AreJust (IsStartBefore starts k) xs → new ≡ with_input xs start.at → AreDistinctInputs routes new × AreJust (IsStartBefore starts (k + 1)) new
start_joined routes starts k start xs new here are distinct just is =
    just_joined routes (IsStartBefore starts k) (IsStartBefore starts (k + 1)) xs new start.at (are.each k start here).input.0
    (λ p (j, other, below, at, there). elim (cases_lt j k) [
      | inl lower ↦ inl (j, other, lower, at, there)
      | inr not ↦ search (arith, same_Some)
    ])
    (λ p (j, other, below, at, there). (j, other, omega (arith, below), at, there))
    (k, start, omega arith, here, refl) distinct just is

begin_of : (routes : Routes) (starts : List Start) (n : ℕ) (p : SwitchPort) → length starts ≤ n → AreOwnStarts routes starts (length routes.ranges) → IsNetwork routes → IsBeginning routes p → IsStartBefore starts n p
begin_of routes starts n p past are net (t, behind, (entry, wired, kind)) =
    let has = are.have t behind p (net.terminals t entry wired) (entry, wired, kind) in
    let inside = slice_get_within starts has.0 has.1 has.2 in
    (has.0, has.1, omega (arith, inside, past), has.2, has.3)

pub starts_all : (routes : Routes) (starts : List Start) (n : ℕ) (xs : List SwitchPort) → length starts ≤ n → AreOwnStarts routes starts (length routes.ranges) → IsNetwork routes → AreJust (IsStartBefore starts n) xs → AreJust (IsBeginning routes) xs
starts_all routes starts n xs past are net just =
    just_alike (IsStartBefore starts n) (IsBeginning routes) xs
    (λ p. (
      λ (j, start, below, at, here). subst (IsBeginning routes) here (start.terminal, start.behind, (are.each j start at).begins),
      begin_of routes starts n p past are net,
    )) just

-- One input
pub one_just : (routes : Routes) (q : SwitchPort) (old new : List SwitchPort) → IsInput (length routes.settings) q → old ≡ [] → new ≡ with_input old q → AreDistinctInputs routes new × AreJust (λ x. q ≡ x) new
one_just routes q old new here none is =
    just_joined routes (λ x. ⊥) (λ x. q ≡ x) old new q here (λ p same. inr same) (λ p none. absurd none) refl
    (subst (AreDistinctInputs routes) (sym none) (none_found routes)) (subst (AreJust (λ x. ⊥)) (sym none) (just_none (λ x. ⊥) (λ p none. none))) is

-- The random headers of entries
pub no_header : (routes : Routes) (r : ℕ) → header_count routes ≤ r → (p : SwitchPort) → IsRandomBeginning routes r p → ⊥
no_header routes r past p (t, wired, random) = let low = random_header routes p r random in omega (arith, low, past)
