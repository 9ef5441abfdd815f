use Rattle.{c104_lean.proofs.SeatWork.{seat_at, seat_stays, seats_all}, c104_turns.specs.Calls.SeatView, std.proofs.Common.length}
use Rattle.std.proofs.Common.{slice_index_or, subst, sym, ◌<◌, ◌≡◌}
use Rattle.c104_lean.proofs.workers.run_workers.Goals as goal

pub for_each_mut-requires-clause-accepts : goal.for_each_mut-requires-clause-accepts
for_each_mut-requires-clause-accepts g c κs within = λ i p inside is.
    subst (λ (s : SeatView). s.word_id ≡ c.args.shared.now.word_id) (sym is)
    (seat_at c.args.shared.now.word_id c.args.seats.now i p.now c.requires.own inside)

pub returns-clause-own : goal.returns-clause-own
returns-clause-own g c = seats_all c.args.shared.now.word_id c.for_each_mut.new.s (λ i d inside.
    let own = c.args.shared.now in
    let olds = c.args.seats.now in
    let within : i < length olds = subst (λ n. i < n) c.for_each_mut.auto.s inside in
    let at = (c.for_each_mut.ensures i d within).1 in
    seat_stays own.before.plan (length olds) i c.args.words own.word_id (slice_index_or olds i d) at.argument.now at.after_call.now
    (slice_index_or c.for_each_mut.new.s i d) at.argument_is at.call.0 at.left (seat_at own.word_id olds i d c.requires.own within))
