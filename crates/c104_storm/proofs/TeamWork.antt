-- What the workers of a storm did, by what each did to its seat.
use Rattle.{c104_event.specs.declared.{events.Event.Event, faults.EventFault.EventFault}, c104_lean.proofs.SeatWork.called_on}
use Rattle.c104_lean.specs.{Runs.AreApplied, Seats.AreAllSeats, Workers.StoppedFirst, Working.{HasWorked, IsOwnEvent, IsStop}}
use Rattle.{c104_plan.specs.Plans.Plan, c104_run.{proofs.RecordedRuns.record_plan, specs.NetRecords.NetRecord}}
use Rattle.c104_storm.specs.{Workers.{AreDoneBy, HaveWorked, IsDoneBy, IsStopOf, Team, team_of}, declared.working.Worked.Worked}
use Rattle.{c104_switch.specs.Actions.Reply, c104_tickets.specs.{Tickets.TableId, declared.views.Terms.Terms}}
use Rattle.c104_turns.specs.{Calls.SeatView, FirstSeats.{first_seat, first_seats}, declared.{faults.RunFault.RunFault, words.Words.Words}}
use Rattle.std.proofs.Common.{All, IfSome, List, Option, Result, [], ap, arith, drop, get_or, length, refl, slice_index_or, subst, sym}
use Rattle.std.proofs.{Common.{take, ℕ, ◌++◌, ◌<◌, ◌∙◌, ◌∷◌, ◌≡◌}, Math.Seq.take-append_seam, lemmas.List.FromFn.get_or-map-range_with_len}
use Rattle.std.proofs.lemmas.List.FromFn.{length-map-range_with_len}

-- first this, and then that
pub all_worked_on : (plan : Plan) (words : Words) (old now new : List SeatView) → HaveWorked plan words old now
    → length new ≡ length now
    → ((i : ℕ) (d : SeatView) → i < length now →
    HasWorked plan words (length now) i (slice_index_or now i d) (slice_index_or new i d)) → HaveWorked plan words old new
all_worked_on plan words old now new first same second = (
  same ∙ first.0,
  λ i d inside. called_on (IsOwnEvent plan words (length old) i) (slice_index_or old i d) (slice_index_or now i d) (slice_index_or new i d)
      (first.1 i d inside)
      (subst (λ n. HasWorked plan words n i (slice_index_or now i d) (slice_index_or new i d)) first.0
      (second i d (omega (arith, inside, first.0)))),
)

-- a run's fault is that of one worker's event
pub fault_seen : (fault : RunFault) → (i : ℕ) × (f : EventFault) × (fault ≡ RunFault.Event i f)
fault_seen (RunFault.Event i f) = (i, f, refl)

-- the first worker that stopped is one of those that there are, and had its fault
pub stop_of : (plan : Plan) (words : Words) (old now new : List SeatView) (i : ℕ) (f : EventFault) → length now ≡ length old
    → length new ≡ length now → StoppedFirst new i f
    → ((j : ℕ) (d : SeatView) → j < length now → IfSome (slice_index_or new j d).stopped (IsStop plan words (length now) j))
    → IsStopOf (team_of (length old) words) plan (Worked.Stopped i f)
stop_of plan words old now [] i f same kept first stops = absurd (omega (arith, first.inside))
stop_of plan words old now (x ∷ xs) i f same kept first stops =
    let inside : i < length now = omega (arith, first.inside, kept) in
    subst (λ n. (i < n) × IsStop plan words n i f) same
    (inside, subst (λ (o : Option EventFault). IfSome o (IsStop plan words (length now) i)) (first.stopped x) (stops i x inside))

-- what the workers left of their seats, which were lent, stands in the list of these
pub written_back : (n : ℕ) (seats before : List SeatView) → length seats ≡ n → take n (seats ++ drop (length seats) before) ≡ seats
written_back n seats before is =
    subst (λ k. take k (seats ++ drop (length seats) before) ≡ seats) is (take-append_seam seats (drop (length seats) before))

pub worked_back : (plan : Plan) (words : Words) (n : ℕ) (before lent seats : List SeatView) → lent ≡ before → length lent ≡ n
    → HaveWorked plan words lent seats → HaveWorked plan words before (take n (seats ++ drop (length seats) before))
worked_back plan words n before lent seats is long worked =
    subst (λ (old : List SeatView). HaveWorked plan words old (take n (seats ++ drop (length seats) before))) is
    (subst (HaveWorked plan words lent) (sym (written_back n seats before (worked.0 ∙ long))) worked)

-- the seat of each number at first
first_at : (word_id : TableId) (terms : Terms) (i : ℕ) (d : SeatView) → i < terms.seats
    → get_or (first_seats word_id terms) i d ≡ first_seat word_id terms i
first_at word_id terms i d inside = get_or-map-range_with_len (first_seat word_id terms) 0 terms.seats i i d inside (omega arith)

first_count : (word_id : TableId) (terms : Terms) (seats : List SeatView) → seats ≡ first_seats word_id terms → length seats ≡ terms.seats
first_count word_id terms seats are =
    ap (λ xs. length xs) are ∙ length-map-range_with_len (first_seat word_id terms) 0 terms.seats

-- what a team's workers did through seats that were new is all that these have
module _ (plan : Plan) (words : Words) (word_id : TableId) (terms : Terms) (old new : List SeatView)
    (are : old ≡ first_seats word_id terms) (worked : HaveWorked plan words old new) where
  abbrev team : Team
  team = team_of terms.seats words

  had : length old ≡ terms.seats
  had = first_count word_id terms old are

  was : (i : ℕ) (d : SeatView) → i < terms.seats → slice_index_or old i d ≡ first_seat word_id terms i
  was i d inside = ap (λ (seats : List SeatView). get_or seats i d) are ∙ first_at word_id terms i d inside

  done_by : (i : ℕ) (d : SeatView) → i < terms.seats → IsDoneBy team plan i (slice_index_or new i d)
  done_by i d inside =
      let work : HasWorked plan words (length old) i (slice_index_or old i d) (slice_index_or new i d) =
      worked.1 i d (omega (arith, inside, had)) in
      record {
        number = work.same.number ∙ ap (λ (s : SeatView). s.number) (was i d inside);
        own = subst (All (λ c. IsOwnEvent plan words terms.seats i c.event))
            (sym (work.listed ∙ ap (λ (s : SeatView). s.calls ++ work.more) (was i d inside)))
            (subst (λ n. All (λ c. IsOwnEvent plan words n i c.event) work.more) had work.own);
      }

  pub team_worked : AreDoneBy team plan new
  team_worked = record { count = worked.0 ∙ had; each = done_by }

  -- these are all seats of the network
  pub all_seats : AreAllSeats terms new
  all_seats = record { count = worked.0 ∙ had; numbers = λ i d inside. (done_by i d inside).number }

  -- and a worker that stopped is one of the team
  pub stop_of_team : (worked_so : Worked) → IsStopOf (team_of (length old) words) plan worked_so → IsStopOf team plan worked_so
  stop_of_team worked_so stop = subst (λ n. IsStopOf (team_of n words) plan worked_so) had stop

-- the plan of a network stays, whatever is applied to it
pub applied_plan : (events : List (Event × Reply)) (from to : NetRecord) → AreApplied from events to
    → to.network.plan ≡ from.network.plan
applied_plan [] from to is = ap (λ (r : NetRecord). r.network.plan) is
applied_plan (e ∷ events) from to applied =
    applied_plan events applied.0 to applied.3
    ∙ ap (λ (d : Result Reply EventFault × NetRecord). d.1.network.plan) applied.1 ∙ record_plan from e.0
