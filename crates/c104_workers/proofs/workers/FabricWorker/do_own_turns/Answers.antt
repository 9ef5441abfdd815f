use Rattle.{c104_turns.specs.{Calls.SeatView, Working.{HasWorked, IsPartEvent, PartView}}, c104_workers.proofs.SeatWork.turns_done}
use Rattle.std.proofs.Common.{All, Bor, ap, length, map, subst, sym, ℕ, ◌-◌, ◌^◌, ◌∙◌, ◌≡◌}
use Rattle.c104_workers.proofs.workers.FabricWorker.do_own_turns.Goals as goal

pub returns-clause-worked : goal.returns-clause-worked
returns-clause-worked g c =
    let own = c.args.self.now in
    let is : map (λ (p : Bor PartView). p.now) c.deref-2.result.now ≡ c.in_ok-own.own.items =
    ap (λ xs. map (λ (p : Bor PartView). p.now) xs) c.deref-2.ensures.value ∙ c.in_ok-parts.ensures ∙ c.deref.ensures.value in
    let so = turns_done (λ p. p.seat.ghost_name) (λ p. p.own.now) (λ p. p.seat.now.0) (λ b. b.fabric.now.handed.plan)
    (λ b. b.worker) (λ b. b.count) _ (λ p. length p.seat.now.0.calls) (map (λ (p : Bor PartView). p.now) c.deref-2.result.now)
    (2 ^ 64 - 1) c.args.turns (2 ^ 64 - 1) c.do_turns.result _
    (subst (All (λ (p : PartView). All (IsPartEvent own.fabric.now.handed.plan own.count own.worker.number) p.events)) (sym is)
    c.in_ok-own.ensures)
    c.do_turns.ensures in
    subst (HasWorked own.fabric.now.handed.plan own.worker.words own.count own.worker.number c.args.seat.now.0)
    (ap (λ (s : SeatView × ℕ). s.0) (sym (c.seat-1.given.1 (sym so.0.0)))) so.0.2

pub returns-clause-stops : goal.returns-clause-stops
returns-clause-stops g c =
    let own = c.args.self.now in
    let is : map (λ (p : Bor PartView). p.now) c.deref-2.result.now ≡ c.in_ok-own.own.items =
    ap (λ xs. map (λ (p : Bor PartView). p.now) xs) c.deref-2.ensures.value ∙ c.in_ok-parts.ensures ∙ c.deref.ensures.value in
    (turns_done (λ p. p.seat.ghost_name) (λ p. p.own.now) (λ p. p.seat.now.0) (λ b. b.fabric.now.handed.plan)
    (λ b. b.worker) (λ b. b.count) _ (λ p. length p.seat.now.0.calls) (map (λ (p : Bor PartView). p.now) c.deref-2.result.now)
    (2 ^ 64 - 1) c.args.turns (2 ^ 64 - 1) c.do_turns.result _
    (subst (All (λ (p : PartView). All (IsPartEvent own.fabric.now.handed.plan own.count own.worker.number) p.events)) (sym is)
    c.in_ok-own.ensures)
    c.do_turns.ensures).1
