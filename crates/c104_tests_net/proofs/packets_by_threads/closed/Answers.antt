use Rattle.c104_tests_net.{proofs.CalmSeats.{left_by_workers, written_back}, specs.CalmFabrics.HaveDoneRounds}
use Rattle.{c104_turns.specs.Calls.SeatView, std.proofs.Common.{List, subst, sym, ℕ, ◌∙◌}}

pub returns : Rattle.c104_tests_net.proofs.packets_by_threads.closed.Goals.returns
returns g c =
    left_by_workers c.args.fabric.word_id c.args.fabric.terms c.args.seats.items c.requires.first _
    (subst (HaveDoneRounds c.args.seats.items)
    (sym (written_back c.args.seats.len c.work.new.seats c.args.seats.items (c.work.ensures.done.0 ∙ c.as_mut_slice.ensures.len)))
    (subst (λ (old : List (SeatView × ℕ)). HaveDoneRounds old c.work.new.seats) c.as_mut_slice.ensures.value c.work.ensures.done))
    c.args.fabric.handed c.close.result c.close.ensures.handed c.close.ensures.seats c.close.ensures.seat_count
