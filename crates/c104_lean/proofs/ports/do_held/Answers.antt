use Rattle.{c104_lean.{proofs.PortWork.{part_done, part_same}, specs.Ports.{HasDone, MayList}}, c104_turns.specs.Calls.SeatView}
use Rattle.std.proofs.Common.{ap, subst, sym, ◌∙◌}

pub returns : Rattle.c104_lean.proofs.ports.do_held.Goals.returns
returns g c =
    let plan = g.N.Sharing.before.plan in
    let did = c.do_part.ensures in
    let kept = part_same (λ p. p.seat.ghost_name) (λ p. p.seat.now) plan c.args.worker (λ p. MayList p.held.now) c.args.part.now _ _ _ did in
    let same = c.seat-1.given.1 (sym kept.0) in
    record {
      done = λ count own. subst (HasDone plan c.args.worker count c.args.seat.now c.do_part.result) (sym same)
          (part_done (λ p. p.seat.ghost_name) (λ p. p.seat.now) plan c.args.worker (λ p. MayList p.held.now) c.args.part.now _ _ _ did
          count own);
      word = ap (λ (s : SeatView). s.word_id) same ∙ kept.1 ∙ c.requires.word;
    }
