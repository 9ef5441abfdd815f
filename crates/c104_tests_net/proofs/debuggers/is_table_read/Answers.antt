use Rattle.{c104_tests_net.proofs.PortCalls.switch_keeps, c104_turns.{proofs.SameSeats.{same_on, same_self}, specs.Calls.IsSameSeat}}
use Rattle.{c104_turns.specs.Calls.SeatView, std.proofs.Common.{ap, refl, sym, ℕ, ◌∙◌, ◌≡◌}}

pub returns : Rattle.c104_tests_net.proofs.debuggers.is_table_read.Goals.returns
returns g c =
    let kept = switch_keeps _ (λ p q. (q.seat.ghost_name ≡ p.seat.ghost_name) × IsSameSeat p.seat.now.0 q.seat.now.0)
    (λ p. (refl, same_self p.seat.now.0))
    (λ p q r first second.
    (second.0 ∙ first.0, same_on p.seat.now.0 q.seat.now.0 r.seat.now.0 first.1 second.1))
    (λ p q s bytes given called. (called.0, called.2.same)) _ _ _ _ _ _ _ _
    c.read_table.ensures.not_asked c.read_table.ensures.due in
    ap (λ (s : SeatView × ℕ). s.0.word_id) (c.seat-1.given.1 (sym kept.0)) ∙ kept.1.word_id ∙ c.requires
