-- The lists of seats of which one log tells all that was done: each has the calls of its number, and the run's events behind what
-- had been done before are theirs.
use Rattle.c104_audit.specs.{AuditedRuns.{AreSeated, AreUnseated, seat_calls}, Audits.is_number, Leads.list_at}
use Rattle.{c104_event.specs.{Calls.call_of, declared.events.Event.Event}, c104_node.specs.{Traces.seatless, declared.stamps.Stamp.Stamp}}
use Rattle.{c104_switch.specs.Actions.Reply, c104_tickets.specs.{Tickets.Each, declared.views.Done.Done}}
use Rattle.c104_turns.{proofs.LogEntries.AreStamped, specs.{Calls.{IsOwn, done_call}, Logs.{call_if, calls_in, done_pair, kept_own}}}
use Rattle.{c104_turns.specs.Logs.own_of, c104_workers.specs.{Audited.{past_seats, seat_list}, OneRuns.IsSeatOfLog}}
use Rattle.{c104_workers.specs.declared.calls.SeatCalls.SeatCalls, std.proofs.Common.{Bool, List, Some, [], ap, arith, false}}
use Rattle.std.proofs.Common.{if◌then◌else◌, inl, inr, is_some, length, map, nat_eq, nat_lt, refl, subst, suc, sym, true, zero, ℕ, ◌+◌, ◌<◌}
use Rattle.std.{proofs.{Common.{◌∙◌, ◌∷◌, ◌≡◌, ◌≤◌, ◌⊎◌}, lemmas.Bool.Decides.nat_tests}, specs.List.range_with_len}

-- a seat of this number is among these
abbrev pub HasNumber : ℕ → List SeatCalls → Type 0
HasNumber number [] = ⊥
HasNumber number (s ∷ seats) = (s.number ≡ number) ⊎ HasNumber number seats

-- where a seat did something, there is such a seat
pub none_or_has : (s : ℕ) (seats : List SeatCalls) (ds : List Done) → Each (λ (d : Done). HasNumber d.deed.seat seats) ds
    → (calls_in s ds ≡ []) ⊎ HasNumber s seats
none_or_has s seats [] has = inl refl
none_or_has s seats (d ∷ ds) has = by_test (nat_eq d.deed.seat s) refl (none_or_has s seats ds has.1)
  where
    by_test : (b : Bool) → nat_eq d.deed.seat s ≡ b → (calls_in s ds ≡ []) ⊎ HasNumber s seats
        → (call_if b d (calls_in s ds) ≡ []) ⊎ HasNumber s seats
    by_test true is rest =
        let same : d.deed.seat ≡ s = grind (arith, nat_tests, is) in
        inr (subst (λ n. HasNumber n seats) same has.0)
    by_test false is rest = rest

differs : (m n : ℕ) → nat_eq m n ≡ false → m ≡ n → ⊥
differs m n is same = let here : nat_eq m n ≡ true = grind (arith, nat_tests, same) in let no : false ≡ true = sym is ∙ here in cc

-- so the list of a number is what its seat did
pub list_is : (s : ℕ) (log : List Done) (seats : List SeatCalls) → Each (IsSeatOfLog log) seats
    → (calls_in s log ≡ []) ⊎ HasNumber s seats → seat_list s seats ≡ calls_in s log
list_is s log [] each (inl none) = sym none
list_is s log [] each (inr has) = absurd has
list_is s log (c ∷ cs) each some = by_test (nat_eq c.number s) refl (list_is s log cs each.1)
  where
    by_test : (b : Bool) → nat_eq c.number s ≡ b → ((calls_in s log ≡ []) ⊎ HasNumber s cs → seat_list s cs ≡ calls_in s log)
        → (if b then c.calls else seat_list s cs) ≡ calls_in s log
    by_test true is rest =
        let same : c.number ≡ s = grind (arith, nat_tests, is) in
        each.0.calls ∙ ap (λ n. calls_in n log) same
    by_test false is rest = rest (elim some [
      | inl none ↦ inl none
      | inr (inl here) ↦ absurd (differs c.number s is here)
      | inr (inr there) ↦ inr there
    ])

-- and no seat has a number past the greatest
none_past : (s : ℕ) (seats : List SeatCalls) → past_seats seats ≤ s → seat_list s seats ≡ []
none_past s [] past = refl
none_past s (c ∷ cs) past =
    let differs : nat_eq c.number s ≡ false = grind (arith, nat_tests, past) in
    ap (λ b. if b then c.calls else seat_list s cs) differs ∙ none_past s cs (omega (arith, past))

numbered_there : {X : Type 0} (f : ℕ → List X) (a n i : ℕ) → i < n → list_at (map f (range_with_len a n)) i ≡ f (a + i)
numbered_there f a zero i below = absurd (let no : ⊥ = omega (arith, below) in no)
numbered_there f a (suc n) zero below = let same : a ≡ a + 0 = omega arith in ap f same
numbered_there f a (suc n) (suc i) below =
    let same : a + 1 + i ≡ a + suc i = omega arith in
    numbered_there f (a + 1) n i (omega (arith, below)) ∙ ap f same

numbered_past : {X : Type 0} (f : ℕ → List X) (a n i : ℕ) → n ≤ i → list_at (map f (range_with_len a n)) i ≡ []
numbered_past f a zero i past = refl
numbered_past f a (suc n) zero past = absurd (let no : ⊥ = omega (arith, past) in no)
numbered_past f a (suc n) (suc i) past = numbered_past f (a + 1) n i (omega (arith, past))

-- the lists of all numbers have at each number its seat's
pub lists_have : (seats : List SeatCalls) (s : ℕ)
    → list_at (map (λ number. seat_list number seats) (range_with_len 0 (past_seats seats))) s ≡ seat_list s seats
lists_have seats s = by_test (nat_lt s (past_seats seats)) refl
  where
    by_test : (b : Bool) → nat_lt s (past_seats seats) ≡ b
        → list_at (map (λ number. seat_list number seats) (range_with_len 0 (past_seats seats))) s ≡ seat_list s seats
    by_test true is =
        let below : s < past_seats seats = grind (arith, nat_tests, is) in
        let same : 0 + s ≡ s = omega arith in
        numbered_there (λ number. seat_list number seats) 0 (past_seats seats) s below ∙ ap (λ n. seat_list n seats) same
    by_test false is =
        let past : past_seats seats ≤ s = grind (arith, nat_tests, is) in
        numbered_past (λ number. seat_list number seats) 0 (past_seats seats) s past ∙ sym (none_past s seats past)

-- the calls of a seat among the events of a log are those of the log
seat_number : (s t : ℕ) → is_number s (Some t) ≡ nat_eq t s
seat_number s t = grind (arith, nat_tests)

pub log_calls : (stamps : ℕ → Stamp) (s n : ℕ) (ds : List Done) → AreStamped stamps n ds
    → seat_calls stamps s n (map done_pair ds) ≡ calls_in s ds
log_calls stamps s n [] stamped = refl
log_calls stamps s n (d ∷ ds) stamped =
    ap (λ (t : Stamp). if is_number s t.seat
    then call_of d.deed.event t.ticket d.deed.reply ∷ seat_calls stamps s (suc n) (map done_pair ds)
    else seat_calls stamps s (suc n) (map done_pair ds)) stamped.0
    ∙ by_test (is_number s (Some d.deed.seat)) (nat_eq d.deed.seat s) (seat_number s d.deed.seat)
    (log_calls stamps s (suc n) ds stamped.1)
  where
    by_test : (b c : Bool) → b ≡ c → seat_calls stamps s (suc n) (map done_pair ds) ≡ calls_in s ds
        → (if b then done_call d ∷ seat_calls stamps s (suc n) (map done_pair ds) else seat_calls stamps s (suc n) (map done_pair ds))
        ≡ call_if c d (calls_in s ds)
    by_test true true same rest = ap (λ cs. done_call d ∷ cs) rest
    by_test true false same rest = absurd (cc)
    by_test false true same rest = absurd (cc)
    by_test false false same rest = rest

pub log_seated : (stamps : ℕ → Stamp) (n : ℕ) (ds : List Done) → AreStamped stamps n ds → AreSeated stamps n (map done_pair ds)
log_seated stamps n [] stamped = tt
log_seated stamps n (d ∷ ds) stamped = (ap (λ (t : Stamp). is_some t.seat) stamped.0, log_seated stamps (suc n) ds stamped.1)

pub before_unseated : (stamps : ℕ → Stamp) (n count : ℕ) (events : List (Event × Reply)) → n + length events ≡ count
    → ((i : ℕ) → i < count → stamps i ≡ seatless i) → AreUnseated stamps n events
before_unseated stamps n count [] long first = tt
before_unseated stamps n count (e ∷ events) long first = (
  ap (λ (t : Stamp). t.seat) (first n (omega (arith, long))),
  before_unseated stamps (suc n) count events (omega (arith, long)) first,
)

pub all_own : (log : List Done) → Each IsOwn log → own_of log ≡ log
all_own [] own = refl
all_own (d ∷ ds) own = ap (λ b. kept_own b d (own_of ds)) own.0 ∙ ap (λ es. d ∷ es) (all_own ds own.1)
