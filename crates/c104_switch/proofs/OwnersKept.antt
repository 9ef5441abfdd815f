-- What is kept of the owners of outputs where one input changes.
use Rattle.{c104_crossbar.specs.Marks.{ArePartition, bool_number, times}, c104_switch.proofs.HeldClaims.{holds_stream, unowned_unheld}}
use Rattle.c104_switch.{proofs.Owners.owner_found, specs.{Commands.input_reset, Holding.{held_claims, phase_claims}, Owners.AreOwners}}
use Rattle.c104_switch.specs.{Phases.is_stream, Starts.start_input, Switch.{Input, is_owned, new_input}, Views.owner_from}
use Rattle.{c104_switch.specs.declared.link_start.LinkStart.LinkStart, std.proofs.Common.{Bool, List, None, Option, Some, [], ap, arith}}
use Rattle.std.proofs.Common.{false, get_or, if◌then◌else◌, inl, inr, is_some, length, map, nat_lt, refl, replicate, slice_get}
use Rattle.std.proofs.Common.{slice_index_or, slice_set, suc, sym, take, true, zero, ℕ, ◌+◌, ◌<◌, ◌==◌, ◌||◌, ◌∙◌, ◌∷◌, ◌≡◌, ◌≢◌, ◌≤◌}
use Rattle.std.proofs.lemmas.{Bool.{Decides.nat_tests, cases_eq, cases_lt}, List.{get_or-set_other, get_or-set_same, length-map}}
use Rattle.std.proofs.lemmas.{List.{length-replicate, length-set, length-take}, Option.slice_get_read}

-- numbers of truth that are the same are of the same
number_same : (a b : Bool) → bool_number a ≡ bool_number b → a ≡ b
number_same a b is = search arith

none_found : {X : Type 0} (found : Option X) → is_some found ≡ false → found ≡ None
none_found found is = search arith

-- no output has an owner at first
pub no_owner : (n o : ℕ) → ◌≡◌ {A = Option ℕ} (slice_index_or (replicate n None) o None) None
no_owner zero o = refl
no_owner (suc n) zero = refl
no_owner (suc n) (suc o) = no_owner n o

module _ {A : Type 0} where
  -- inputs that change alike stream alike
  streams_same : (p q : Input A) (o : ℕ) → times o (phase_claims p.phase) ≡ times o (phase_claims q.phase) → is_stream o q.phase ≡ is_stream o p.phase
  streams_same p q o same = number_same (is_stream o q.phase) (is_stream o p.phase) (sym (holds_stream o q.phase) ∙ sym same ∙ holds_stream o p.phase)

  -- an output whose claim no input holds has no owner
  unheld : (n : ℕ) (ps : List (Input A)) (o : ℕ) → times o (held_claims ps) ≡ 0 → owner_from n ps o ≡ None
  unheld n ps o none = none_found (owner_from n ps o) (owner_found n ps o ∙ unowned_unheld o ps none)

  -- the owner of an output is found where it was, if the input that changes streams to it as before
  owner_same : (n : ℕ) (ps : List (Input A)) (i : ℕ) (p q : Input A) (o : ℕ) → slice_get ps i ≡ Some p → is_stream o q.phase ≡ is_stream o p.phase → owner_from n (slice_set ps i q) o ≡ owner_from n ps o
  owner_same n [] i p q o here same = refl
  owner_same n (r ∷ ps) zero p q o here same = search arith
  owner_same n (r ∷ ps) (suc i) p q o here same = rw (owner_same (suc n) ps i p q o here same) refl

  -- an input that streams to an output that no other does is its owner
  owner_new : (n : ℕ) (ps : List (Input A)) (i : ℕ) (q : Input A) (o : ℕ) → i < length ps → is_owned ps o ≡ false → is_stream o q.phase ≡ true → owner_from n (slice_set ps i q) o ≡ Some (n + i)
  owner_new n [] i q o inside free streams = absurd (omega arith)
  owner_new n (r ∷ ps) zero q o inside free streams = let same : n ≡ n + 0 = omega arith in rw streams (ap Some same)
  owner_new n (r ∷ ps) (suc i) q o inside free streams = by_stream (is_stream o r.phase) (owner_new (suc n) ps i q o (omega arith)) free
    where
      by_stream : (first : Bool) → (is_owned ps o ≡ false → is_stream o q.phase ≡ true → owner_from (suc n) (slice_set ps i q) o ≡ Some (suc n + i)) → (first || is_owned ps o) ≡ false → (if first then Some n else owner_from (suc n) (slice_set ps i q) o) ≡ Some (n + suc i)
      by_stream first new taken = search arith

  -- the owner is one of the inputs
  pub owner_inside : (n : ℕ) (ps : List (Input A)) (o k : ℕ) → owner_from n ps o ≡ Some k → k < n + length ps
  owner_inside n [] o k is = absurd (cc is)
  owner_inside n (p ∷ ps) o k is = by_stream (is_stream o p.phase) (owner_inside (suc n) ps o k) is
    where
      by_stream : (first : Bool) → (owner_from (suc n) ps o ≡ Some k → k < suc n + length ps) → (if first then Some n else owner_from (suc n) ps o) ≡ Some k → k < n + suc (length ps)
      by_stream first below found = search arith

  -- inputs that hold no claim own nothing
  pub owners_none : (ps : List (Input A)) → held_claims ps ≡ [] → AreOwners (replicate 32 None) ps
  owners_none ps none = record { count = length-replicate {A = Option ℕ} 32 None; each = λ o. no_owner 32 o ∙ sym (unheld 0 ps o (ap (times o) none)) }

  pub few_first : (cap n : ℕ) (ps : List (Input A)) → n ≤ 32 → ps ≡ replicate n (new_input cap) → length ps ≤ 32
  few_first cap n ps few is = let count : length ps ≡ n = ap length is ∙ length-replicate n (new_input cap) in omega (arith, count)

  pub few_start : (n : ℕ) (links : List LinkStart) (ps : List (Input A)) → length links ≤ 32 → ps ≡ map start_input (take n links) → length ps ≤ 32
  few_start n links ps few is = let count : length ps ≡ length (take n links) = ap length is ∙ length-map (take n links) start_input in let most = length-take n links in omega (arith, count)

  -- a reset input holds no claim
  pub reset_unheld : (ps : List (Input A)) → held_claims (map input_reset ps) ≡ []
  reset_unheld [] = refl
  reset_unheld (p ∷ ps) = reset_unheld ps

module _ {A : Type 0} (owners : List (Option ℕ)) (ps : List (Input A)) (i : ℕ) (p q : Input A) (inside : i < length ps) (is : p ≡ get_or ps i p) (kept : AreOwners owners ps) where
  here : slice_get ps i ≡ Some p
  here = slice_get_read ps (length ps) i p refl inside is

  -- an input that holds what it held owns what it owned
  pub owners_kept : phase_claims p.phase ≡ phase_claims q.phase → AreOwners owners (slice_set ps i q)
  owners_kept same = record { count = kept.count; each = λ o. kept.each o ∙ sym (owner_same 0 ps i p q o here (streams_same p q o (ap (times o) same))) }

  beside : (c o : ℕ) → o ≢ c → times o (phase_claims p.phase) ≡ times o (phase_claims q.phase) → (owner : Option ℕ) → slice_index_or (slice_set owners c owner) o None ≡ owner_from 0 (slice_set ps i q) o
  beside c o other same owner = get_or-set_other owners c o owner None other ∙ kept.each o ∙ sym (owner_same 0 ps i p q o here (streams_same p q o same))

  apart : (c o : ℕ) → o ≢ c → bool_number (o == c) ≡ 0
  apart c o other = let eq : (o == c) ≡ false = grind (arith, nat_tests) in ap bool_number eq

  same_one : (c : ℕ) → bool_number (c == c) ≡ 1
  same_one c = let eq : (c == c) ≡ true = grind (arith, nat_tests) in ap bool_number eq

  -- a claim is of one of the 32 outputs
  within : (c : ℕ) (cs : List ℕ) (marks : List Bool) → ArePartition (c ∷ cs) marks → c < length owners
  within c cs marks partition = elim (cases_lt c 32) [
    | inl below ↦ let count = kept.count in omega arith
    | inr past ↦ absurd (
        let sum = partition c in
        let one = same_one c in
        let not_below : nat_lt c 32 ≡ false = grind (arith, nat_tests) in
        let none : bool_number (nat_lt c 32) ≡ 0 = ap bool_number not_below in
        let no : ⊥ = omega arith in no)
  ]

  -- at most one input holds the claim of an output
  held_once : (c : ℕ) (cs : List ℕ) (marks : List Bool) → ArePartition (c ∷ cs) marks → times c cs ≡ 0
  held_once c cs marks partition = search (arith, same_one)

  -- one that gives a claim back owns that output no more
  pub owners_freed : (c : ℕ) (marks : List Bool) → phase_claims p.phase ≡ c ∷ phase_claims q.phase → ArePartition (c ∷ held_claims (slice_set ps i q)) marks → AreOwners (slice_set owners c None) (slice_set ps i q)
  owners_freed c marks gives partition = record {
    count = length-set owners c None ∙ kept.count;
    each = λ o. elim (cases_eq o c) [
      | inl same ↦ rw same (get_or-set_same owners c None None (within c (held_claims (slice_set ps i q)) marks partition) ∙ sym (unheld 0 (slice_set ps i q) c (held_once c (held_claims (slice_set ps i q)) marks partition)))
      | inr other ↦ beside c o other (let one : times o (phase_claims p.phase) ≡ bool_number (o == c) + times o (phase_claims q.phase) = ap (times o) gives in let none = apart c o other in omega arith) None
    ];
  }

  -- and one that takes a claim owns that output from then on
  pub owners_claimed : (c : ℕ) (marks : List Bool) → phase_claims q.phase ≡ c ∷ phase_claims p.phase → ArePartition (c ∷ held_claims ps) marks → AreOwners (slice_set owners c (Some i)) (slice_set ps i q)
  owners_claimed c marks takes partition = record {
    count = length-set owners c (Some i) ∙ kept.count;
    each = λ o. elim (cases_eq o c) [
      | inl same ↦ search (arith, held_once, number_one, same_one, holds_stream, get_or-set_same, within, owner_new, unowned_unheld)
      | inr other ↦ beside c o other (let one : times o (phase_claims q.phase) ≡ bool_number (o == c) + times o (phase_claims p.phase) = ap (times o) takes in let none = apart c o other in omega arith) (Some i)
    ];
  }
    where
      number_one : (b : Bool) → 1 ≤ bool_number b → b ≡ true
      number_one b some = search arith

-- claims of which each has the same behind its first
pub rest_same : (c b : ℕ) (cs bs : List ℕ) → b ∷ bs ≡ c ∷ cs → cs ≡ bs
rest_same c b cs bs is = cc
