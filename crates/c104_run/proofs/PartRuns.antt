-- Parts of a round: one goes on from the one before, and an event that isn't ready may be left out.
use Rattle.{c104_event.specs.declared.{events.Event.Event, faults.EventFault.EventFault}, c104_node.proofs.Ranges.range_more}
use Rattle.c104_run.{proofs.RoundRuns.{Applied, run_append, run_from, run_reply}, specs.{EventRuns.Answers, RoundParts.PartEnds}}
use Rattle.{c104_switch.specs.Actions.{Reply, is_ready}, std.proofs.Common.{Bool, Err, List, Ok, [], ap, append-nil, append_assoc, arith}}
use Rattle.std.proofs.Common.{false, inl, inr, map, refl, subst, suc, sym, true, zero, ℕ, ◌++◌, ◌+◌, ◌-◌, ◌<◌, ◌||◌, ◌∙◌, ◌∷◌, ◌≡◌, ◌≤◌}
use Rattle.std.{proofs.lemmas.Grind.flat_map-append, specs.List.{flat_map, range_with_len}}

-- where one of two is so, and it isn't, neither is
pub neither : (a b : Bool) → (a || b) ≡ false → (a ≡ false) × (b ≡ false)
neither a b none = search arith

-- a list of single events is a list of parts
abbrev pub single : {X : Type 0} → (X → Event) → X → List Event
single f x = f x ∷ []

pub singles : {X : Type 0} (f : X → Event) (xs : List X) → flat_map (single f) xs ≡ map f xs
singles f xs = search arith

module _ {S : Type 0} (apply : S → Event → Applied S) where
  -- no event
  pub part_empty : (net : S) → PartEnds apply net [] (Ok false) net
  part_empty net = record { ends = (refl, λ none. refl) }

  -- one part after another
  pub part_after : (net mid after : S) (front part : List Event) (a b : Bool) → PartEnds apply net front (Ok a) mid → PartEnds apply mid part (Ok b) after → PartEnds apply net (front ++ part) (Ok (a || b)) after
  part_after net mid after front part a b first next = search (arith, run_from, neither)

  -- a part that a fault stops, and what would have followed
  pub stops_before : (net after : S) (part more : List Event) (f : EventFault) → PartEnds apply net part (Err f) after → PartEnds apply net (part ++ more) (Err f) after
  stops_before net after part more f part_ends = search (arith, run_append, append_assoc)

  -- a part that a fault stops, after another
  pub stops_after : (net mid after : S) (front part : List Event) (a : Bool) (f : EventFault) → PartEnds apply net front (Ok a) mid → PartEnds apply mid part (Err f) after → PartEnds apply net (front ++ part) (Err f) after
  stops_after net mid after front part a f first part_ends =
      record {
        ends = elim part_ends.ends [
          | inl due ↦ inl (due ∙ sym (run_from apply net mid front part first.ends.0))
          | inr short ↦ inr (record {
            refused = short.refused;
            front = front ++ short.front;
            event = short.event;
            rest = short.rest;
            parts = ap (λ es. front ++ es) short.parts ∙ sym (append_assoc front short.front (short.event ∷ short.rest));
            stands = run_from apply net mid front short.front first.ends.0 ∙ short.stands;
            wanted = short.wanted;
          })
        ];
      }

  -- one event that was answered, which changes nothing where it isn't done
  pub part_of_reply : (net after : S) (e : Event) (r : Reply) → (is_ready r ≡ false → after ≡ net) → Answers apply net e (Ok r) after → PartEnds apply net (e ∷ []) (Ok (is_ready r)) after
  part_of_reply net after e r undone answer = search (arith, run_reply)

  -- the parts of the numbers below one
  module _ (part : ℕ → List Event) where
    abbrev pub below : ℕ → List Event
    below n = flat_map part (range_with_len 0 n)

    one_more : (i : ℕ) → below (i + 1) ≡ below i ++ part i
    one_more i = ap (flat_map part) (range_more i) ∙ flat_map-append part (range_with_len 0 i) (i ∷ []) ∙ ap (λ es. below i ++ es) (append-nil (part i))

    pub number_next : (i : ℕ) (net mid after : S) (a b : Bool) → PartEnds apply net (below i) (Ok a) mid → PartEnds apply mid (part i) (Ok b) after → PartEnds apply net (below (i + 1)) (Ok (a || b)) after
    number_next i net mid after a b first next = subst (λ es. PartEnds apply net es (Ok (a || b)) after) (sym (one_more i)) (part_after net mid after (below i) (part i) a b first next)

    -- those up to another one, which would do nothing
    numbers_passed : (n i : ℕ) (net mid : S) (a : Bool) → ((k : ℕ) → i ≤ k → k < i + n → PartEnds apply mid (part k) (Ok false) mid) → PartEnds apply net (below i) (Ok a) mid → PartEnds apply net (below (i + n)) (Ok a) mid
    numbers_passed zero i net mid a idle first = let same : i ≡ i + zero = omega arith in subst (λ k. PartEnds apply net (below k) (Ok a) mid) same first
    numbers_passed (suc n) i net mid a idle first =
        let same : i + 1 + n ≡ i + suc n = omega arith in
        let one : PartEnds apply net (below (i + 1)) (Ok (a || false)) mid = number_next i net mid mid a false first (idle i (omega arith) (omega arith)) in
        subst (λ k. PartEnds apply net (below k) (Ok a) mid) same
        (numbers_passed n (i + 1) net mid a (λ k from inside. idle k (omega arith) (omega arith)) (subst (λ b. PartEnds apply net (below (i + 1)) (Ok b) mid) (or_false a) one))
      where
        or_false : (a : Bool) → (a || false) ≡ a
        or_false true = refl
        or_false false = refl

    pub number_passes : (i j : ℕ) (net mid : S) (a : Bool) → i ≤ j → ((k : ℕ) → i ≤ k → k < j → PartEnds apply mid (part k) (Ok false) mid) → PartEnds apply net (below i) (Ok a) mid → PartEnds apply net (below j) (Ok a) mid
    number_passes i j net mid a from idle first =
        let count : i + (j - i) ≡ j = omega arith in
        subst (λ k. PartEnds apply net (below k) (Ok a) mid) count (numbers_passed (j - i) i net mid a (λ k above inside. idle k above (omega arith)) first)

    -- one at which a fault stops all
    stops_later : (n i : ℕ) (net after : S) (f : EventFault) → PartEnds apply net (below i) (Err f) after → PartEnds apply net (below (i + n)) (Err f) after
    stops_later zero i net after f stops = let same : i ≡ i + zero = omega arith in subst (λ k. PartEnds apply net (below k) (Err f) after) same stops
    stops_later (suc n) i net after f stops =
        let same : i + 1 + n ≡ i + suc n = omega arith in
        subst (λ k. PartEnds apply net (below k) (Err f) after) same
        (stops_later n (i + 1) net after f (subst (λ es. PartEnds apply net es (Err f) after) (sym (one_more i)) (stops_before net after (below i) (part i) f stops)))

    pub number_stops : (i n : ℕ) (net mid after : S) (a : Bool) (f : EventFault) → i < n → PartEnds apply net (below i) (Ok a) mid → PartEnds apply mid (part i) (Err f) after → PartEnds apply net (below n) (Err f) after
    number_stops i n net mid after a f inside first ends =
        let count : i + 1 + (n - (i + 1)) ≡ n = omega (arith, inside) in
        subst (λ k. PartEnds apply net (below k) (Err f) after) count
        (stops_later (n - (i + 1)) (i + 1) net after f (subst (λ es. PartEnds apply net es (Err f) after) (sym (one_more i)) (stops_after net mid after (below i) (part i) a f first ends)))
