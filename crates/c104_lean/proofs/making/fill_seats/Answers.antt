use Rattle.{c104_lean.proofs.MadeSeats.first_own, c104_run.proofs.RoundLists.map_next, c104_tickets.specs.Tickets.after_split}
use Rattle.{c104_tickets.specs.{Tickets.first_track, declared.views.View.View}, c104_turns.proofs.TakenSeats.seats_next}
use Rattle.{c104_turns.specs.FirstSeats.first_seat, std.proofs.Common.{[], ap, arith, length, map, ◌++◌, ◌+◌, ◌∙◌, ◌∷◌, ◌≡◌}}
use Rattle.std.{proofs.lemmas.List.length-append, specs.List.range_with_len}
use Rattle.c104_lean.proofs.making.fill_seats.Goals as goal

pub loop-number-preserved : goal.loop-number-preserved
loop-number-preserved c =
    let seat = first_seat c.args.log.now.word_id c.args.terms in
    let next = seats_next c.args.terms c.loop-number.number (omega (arith, c.loop-number-test.true)) in
    let seen : c.new.result ≡ seat c.loop-number.number =
    c.new.ensures
    ∙ ap (λ t. first_seat t c.split-own.result.view.terms c.loop-number.number) (c.split-own.ensures.made.0 ∙ c.loop-number.invariant.word)
    ∙ ap (λ (v : View). first_seat c.args.log.now.word_id v.terms c.loop-number.number) (c.split-own.ensures.made.1 ∙ ap first_track c.loop-number.invariant.view) in
    let grown : c.push_reserved.new.self.items ≡ c.loop-number.list.items ++ seat c.loop-number.number ∷ [] =
    c.push_reserved.ensures.items ∙ ap (λ s. c.loop-number.list.items ++ s ∷ []) seen in
    record {
      word = c.split-own.ensures.old.0 ∙ c.loop-number.invariant.word;
      view = c.split-own.ensures.old.1 ∙ ap after_split c.loop-number.invariant.view ∙ next.1;
      seats = map_next seat c.loop-number.number [] _ _ c.loop-number.invariant.seats grown;
      counted = ap (λ xs. length xs) c.push_reserved.ensures.items ∙ length-append c.loop-number.list.items (c.new.result ∷ []) ∙ ap (λ n. n + 1) c.loop-number.invariant.counted;
      room = omega (arith, c.push_reserved.ensures.capacity, c.loop-number.invariant.room);
    }

pub returns-clause-own : goal.returns-clause-own
returns-clause-own c =
    first_own c.args.log.now.word_id c.args.terms c.loop-number.list.items
    (c.loop-number.invariant.seats ∙ ap (λ n. map (first_seat c.args.log.now.word_id c.args.terms) (range_with_len 0 n)) (omega (arith, c.loop-number-test.false, c.loop-number.auto)))
