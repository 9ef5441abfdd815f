use Rattle.c104_lean.{proofs.PortWork.{own_events, turns_done}, specs.{Shared.SharedView, Working.{HasWorked, IsStop}}}
use Rattle.{c104_plan.specs.Plans.Plan, c104_turns.specs.Calls.SeatView, std.proofs.Common.{IfErr, ap, subst, sym}}
use Rattle.c104_lean.proofs.workers.Worker.do_turns.Given.{Over}
use Rattle.c104_lean.proofs.workers.Worker.do_turns.Goals as goal

-- what was done through the port, of the network's own plan and the seat that was lent to it
done : (g : Over) (c : goal.After-drop-parts g)
    → HasWorked c.args.self.now.shared.now.before.plan c.args.self.now.words c.args.self.now.count c.args.self.now.number
    c.args.seat.now c.seat-1.given.0
    × IfErr c.do_turns.result
    (IsStop c.args.self.now.shared.now.before.plan c.args.self.now.words c.args.self.now.count c.args.self.now.number)
done g c =
    let own = c.args.self.now in
    let there = g.N.Sharing.before.plan in
    let stood = ap (λ (s : SharedView). s.before.plan) c.shared.view_is in
    let so = turns_done (λ p. p.seat.ghost_name) (λ p. p.worker) (λ p. p.seat.now) there own.count _ _
    (own_events own.shared.now.before.plan there own.count own.number _ _ stood c.as_slice.ensures.value c.in_ok-parts.ensures)
    _ _ _ _ _ c.do_turns.ensures in
    subst (λ (plan : Plan). HasWorked plan own.words own.count own.number c.args.seat.now c.seat-1.given.0
    × IfErr c.do_turns.result (IsStop plan own.words own.count own.number)) stood
    (subst (λ (s : SeatView). HasWorked there own.words own.count own.number c.args.seat.now s
    × IfErr c.do_turns.result (IsStop there own.words own.count own.number)) (sym (c.seat-1.given.1 (sym so.0))) so.2)

pub returns-clause-worked : goal.returns-clause-worked
returns-clause-worked g c = (done g c).0

pub returns-clause-stops : goal.returns-clause-stops
returns-clause-stops g c = (done g c).1
