use Rattle.{c104_tools.specs.{Loads.verify_list, Outcomes.{Outcome, due_value_only, nothing_made}}, c104_turns.specs.Calls.SeatView}
use Rattle.c104_workers.{proofs.PortRuns.{same_or_not, tool_asked, tool_stays}, specs.SeatCommands.{HasMoreCalls, SeatCommanded}}
use Rattle.std.proofs.Common.{ap, length, subst, sym, ℕ, ◌∙◌}

pub returns : Rattle.c104_workers.proofs.fabric.Fabric.verify.Goals.returns
returns g c =
    let stays = tool_stays (λ p. p.seat.ghost_name) (λ p. p.fabric.now)
    (λ p. p.seat.now.0) _ _ _ _ _ _ c.verify.ensures.not_asked c.verify.ensures.due
    (same_or_not (length c.args.self.now.handed.plan.switches) (length c.args.image.now.settings)) in
    let same = ap (λ (s : SeatView × ℕ). s.0) (c.seat-1.given.1 (sym stays.0)) in
    record {
      unfitting = c.verify.ensures.unfitting;
      not_asked = λ other. same ∙ ap (λ p. p.seat.now.0) (c.verify.ensures.not_asked other);
      asked = λ is. subst (λ s. Outcome (SeatCommanded c.args.self.now) due_value_only nothing_made c.args.seat.now.0
          (verify_list c.args.image.now.settings) c.verify.result s) (sym same)
          (tool_asked (λ p. p.seat.ghost_name) (λ p. p.fabric.now)
          (λ p. p.seat.now.0) _ _ _ _ _ _ c.verify.ensures.not_asked c.verify.ensures.due is);
      grew = subst (HasMoreCalls c.args.seat.now.0) (sym same) stays.1;
    }
