-- What workers do are events of rounds: they send nothing, and set nothing.
use Rattle.{c104_deadlock.proofs.RoundMembers.each_of_round, c104_event.specs.declared.{calls.Call.Call, events.Event.Event}}
use Rattle.{c104_lean.specs.Working.IsOwnEvent, c104_net.specs.RoundEvents.IsOfRound, c104_plan.proofs.RangeLists.all_of_each}
use Rattle.{c104_plan.specs.Plans.Plan, c104_run.specs.{EventPlaces.event_place, NodeParts.round_part, Rounds.round}}
use Rattle.{c104_storm.specs.Workers.{AreDoneBy, Team}, c104_tickets.specs.{Tickets.Each, declared.views.Done.Done}}
use Rattle.c104_turns.specs.{Calls.SeatView, Logs.{call_if, calls_in}, Words.with_word, declared.words.Words.Words}
use Rattle.std.proofs.Common.{Bool, Contains, List, [], arith, false, length, nat_eq, slice_index_or, subst, suc, sym, true, zero, ℕ, ◌<◌}
use Rattle.std.proofs.{Common.{◌∷◌, ◌≡◌}, lemmas.{Bool.Decides.nat_tests, List.Elements.{All-contains, All-filter, recursion_from_All}}}
use Rattle.std.specs.List.{AllByRecursion}

-- each event of a round is such a one, and stays so with another word
part_of : (plan : Plan) (k : ℕ) (e : Event) → Contains (round_part plan k) e → IsOfRound e
part_of plan k e has =
    let all : AllByRecursion IsOfRound (round plan) =
    each_of_round plan IsOfRound (λ p q wire. tt) (λ p q wire. tt) (λ s l q wire. tt) (λ s i o inside input output. tt) (λ t inside. tt) in
    All-contains IsOfRound (round_part plan k) e
    (All-filter (λ x. nat_eq (event_place plan x) k) IsOfRound (round plan) (all_of_each IsOfRound (round plan) all)) has

worded_of : (w : ℕ) (e : Event) → IsOfRound e → IsOfRound (with_word w e)
worded_of w e of = search arith

-- so is what a worker does
own_of : (plan : Plan) (words : Words) (n i : ℕ) (e : Event) → IsOwnEvent plan words n i e → IsOfRound e
own_of plan words n i e own =
    subst IsOfRound (sym own.is) (worded_of _ own.event (part_of plan own.part.node own.event own.part.part))

abbrev AreCallsOfRound : List Call → Type 0
AreCallsOfRound calls = AllByRecursion (λ (c : Call). IsOfRound c.event) calls

-- what is known of the seat at a place is known of its part of the log
part_of_log : (log : List Done) (seats : List SeatView) (i s : ℕ) → i < length seats
    → Each (λ (x : SeatView). x.calls ≡ calls_in x.number log) seats
    → ((d : SeatView) → ((slice_index_or seats i d).number ≡ s) × AreCallsOfRound (slice_index_or seats i d).calls)
    → AreCallsOfRound (calls_in s log)
part_of_log log [] i s inside calls of = absurd (let no : ⊥ = omega (arith, inside) in no)
part_of_log log (x ∷ seats) zero s inside calls of =
    subst (λ n. AreCallsOfRound (calls_in n log)) (of x).0 (subst AreCallsOfRound calls.0 (of x).1)
part_of_log log (x ∷ seats) (suc i) s inside calls of = part_of_log log seats i s (omega (arith, inside)) calls.1 of

-- where the part of each seat is so, and each of a log was done through one of them, all of it is
logged_of_round : (count : ℕ) (log : List Done) → Each (λ (d : Done). d.deed.seat < count) log
    → ((s : ℕ) → s < count → AreCallsOfRound (calls_in s log)) → AllByRecursion (λ (d : Done). IsOfRound d.deed.event) log
logged_of_round count [] seated each = tt
logged_of_round count (d ∷ log) seated each =
    (first, logged_of_round count log seated.1 (λ s inside. later s (nat_eq d.deed.seat s) (each s inside)))
  where
    itself : nat_eq d.deed.seat d.deed.seat ≡ true
    itself = grind (arith, nat_tests)

    first : IsOfRound d.deed.event
    first = (subst (λ b. AreCallsOfRound (call_if b d (calls_in d.deed.seat log))) itself (each d.deed.seat seated.0)).0

    later : (s : ℕ) (b : Bool) → AreCallsOfRound (call_if b d (calls_in s log)) → AreCallsOfRound (calls_in s log)
    later s true all = all.1
    later s false all = all

-- so all that a team did are events of rounds
pub team_of_round : (team : Team) (plan : Plan) (seats : List SeatView) (log : List Done) → AreDoneBy team plan seats
    → Each (λ (d : Done). d.deed.seat < team.count) log → Each (λ (s : SeatView). s.calls ≡ calls_in s.number log) seats
    → AllByRecursion (λ (d : Done). IsOfRound d.deed.event) log
team_of_round team plan seats log done seated calls =
    logged_of_round team.count log seated (λ s inside.
    part_of_log log seats s s (omega (arith, inside, done.count)) calls (λ d. (
      (done.each s d inside).number,
      recursion_from_All (λ (c : Call). IsOfRound c.event) (slice_index_or seats s d).calls
          (λ k e within. own_of plan team.words team.count s _ ((done.each s d inside).own k e within)),
    )))
