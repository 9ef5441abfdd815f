-- What all seats of a fabric leave, through which nothing was done on nodes that were lent: one run, that of their calls.
use Rattle.{c104_plan.specs.Plans.{IsPlan, Plan}, c104_run.specs.{FinishedRecords.FinishedRecord, NodeRuns.{TellRun, nodes_run}}}
use Rattle.{c104_tickets.specs.{Tickets.Each, declared.views.Done.Done}, c104_turns.{proofs.SeatParts.each_at, specs.Calls.IsOwn}}
use Rattle.{c104_turns.specs.Logs.own_of, c104_workers.proofs.{LogAudits.{log_audited, log_tells}, LogSeats.{HasNumber, all_own}}}
use Rattle.c104_workers.specs.{Audited.TellsSeats, Fabrics.Left, OneRuns.{IsLeft, IsSeatOfLog, IsWhole}, declared.calls.SeatCalls.SeatCalls}
use Rattle.std.proofs.Common.{List, [], ap, arith, false, inl, inr, length, refl, slice_index_or, subst, suc, sym, zero, ℕ, ◌+◌, ◌<◌, ◌∙◌}
use Rattle.std.proofs.Common.{◌∷◌, ◌≡◌}

-- a seat that stands at a place is one of them
has_at : (seats : List SeatCalls) (i n : ℕ) (d : SeatCalls) → i < length seats → (slice_index_or seats i d).number ≡ n → HasNumber n seats
has_at [] i n d inside is = absurd (let no : ⊥ = omega (arith, inside) in no)
has_at (s ∷ seats) zero n d inside is = inl is
has_at (s ∷ seats) (suc i) n d inside is = inr (has_at seats i n d (omega (arith, inside)) is)

-- what holds of each seat's part holds of all that was done
parts_all : (P : Done → Type 0) (count : ℕ) (log : List Done) → Each (λ (d : Done). d.deed.seat < count) log → ((s : ℕ) → s < count → Each (λ (d : Done). d.deed.seat ≡ s → P d) log) → Each P log
parts_all P count [] seated parts = tt
parts_all P count (d ∷ log) seated parts =
    ((parts d.deed.seat seated.0).0 refl, parts_all P count log seated.1 (λ s inside. (parts s inside).1))

all_have : (count : ℕ) (seats : List SeatCalls) (log : List Done) → ((s : ℕ) → s < count → HasNumber s seats) → Each (λ (d : Done). d.deed.seat < count) log → Each (λ (d : Done). HasNumber d.deed.seat seats) log
all_have count seats [] has seated = tt
all_have count seats (d ∷ log) has seated = (has d.deed.seat seated.0, all_have count seats log has seated.1)

no_seat : SeatCalls
no_seat = record { number = 0; calls = []; lent = false }

module _ (left : Left) (kept : IsLeft left) (is_plan : IsPlan left.handed.plan) (whole : IsWhole left) where
  abbrev P : Plan
  P = left.handed.plan

  seat_own : (s : ℕ) → s < left.seat_count → Each (λ (d : Done). d.deed.seat ≡ s → IsOwn d) kept.one.log
  seat_own s inside =
      subst (λ n. Each (λ (d : Done). d.deed.seat ≡ n → IsOwn d) kept.one.log) (whole.numbers s no_seat inside)
      ((each_at (IsSeatOfLog kept.one.log) left.seats s no_seat kept.one.seats (omega (arith, inside, whole.count))).own (whole.own s no_seat inside))

  own : Each IsOwn kept.one.log
  own = parts_all IsOwn left.seat_count kept.one.log kept.one.seated seat_own

  has : Each (λ (d : Done). HasNumber d.deed.seat left.seats) kept.one.log
  has = all_have left.seat_count left.seats kept.one.log
      (λ s inside. has_at left.seats s s no_seat (omega (arith, inside, whole.count)) (whole.numbers s no_seat inside)) kept.one.seated

  counted : left.handed.count + length (own_of kept.one.log) ≡ left.next
  counted = ap (λ ds. left.handed.count + length ds) (all_own kept.one.log own) ∙ sym kept.one.last

  -- the nodes tell a run of as many events as tickets were drawn
  pub whole_tells : TellRun P left.nodes left.next
  whole_tells = subst (TellRun P left.nodes) counted (log_tells left.handed kept.handed left.nodes kept.one.log kept.one.run)

  -- and it is that of the seats
  pub whole_run : (run : FinishedRecord) → run ≡ nodes_run P left.nodes left.next → TellsSeats left run
  whole_run run is = log_audited left kept.handed is_plan kept.one own has run (is ∙ ap (nodes_run P left.nodes) kept.one.last)
