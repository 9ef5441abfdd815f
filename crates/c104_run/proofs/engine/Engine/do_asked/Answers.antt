use Rattle.{c104_node.specs.{Places.bases, Traces.seatless}, c104_plan.specs.Plans.{IsPlan, Plan}, c104_run.proofs.ActAnswers.event_done}
use Rattle.c104_run.proofs.{Engines.{HasDone, alone_done, joint_done, joint_unready}, LiveRounds.live_all, MeteredSteps.told_meter}
use Rattle.{c104_run.specs.{AskedActs.acts_asked, Engines.engine_of, KnownWires.KnowWires}, std.proofs.Common.{ap, length, map, subst, sym}}
use Rattle.std.{proofs.{Common.◌∙◌, lemmas.List.with_items_is}, specs.Vec.with_items}
use Rattle.c104_run.proofs.engine.Engine.do_asked.Goals.{in-Alone, in-Joint+else-can_near_at, in-Joint+then-can_near_at, in-Send}
use Rattle.c104_run.proofs.engine.Engine.do_asked.Given
use Rattle.c104_run.proofs.engine.Engine.do_asked.Goals as goal

-- the places did the acts that are asked
acted : (g : Given.Over) (c : goal.After-fill g) →
    HasDone g.T.TokenKind.kind g.P.Place.keeps g.P.Place.shown (acts_asked c.in_ok-asked.asked) (engine_of c.self.inside.wires c.self.inside.places.items c.self.inside.count) c.match-asked.answer
    (engine_of c.match-asked.self-inside.wires c.match-asked.self-inside.places.items c.match-asked.self-inside.count)
acted g c =
    let many = ap length (c.switches-switches.ensures.switches ∙ ap (λ p. p.switches) c.plan.ensures.plan) in
    let lent = c.as_mut_slice-places.ensures.value in
    elim c.match-asked.branch [
      | in-Alone w ↦ rw (w.in-Alone.is, w.self-inside-is, w.answer-is) (alone_done g.T.TokenKind.kind g.P.Place.keeps g.P.Place.shown c.self.inside.wires c.self.inside.count c.self.inside.places.items c.as_mut_slice-places.result.now w.do_alone-answer.new.places (with_items c.self.inside.places w.do_alone-answer.new.places).items lent
          (with_items_is c.self.inside.places w.do_alone-answer.new.places (w.do_alone-answer.auto.places ∙ c.as_mut_slice-places.ensures.len)) w.do_alone-answer.result _ many w.in-Alone.place w.in-Alone.act w.do_alone-answer.ensures)
      | in-Send w ↦ rw (w.in-Send.is, w.self-inside-is, w.answer-is) (alone_done g.T.TokenKind.kind g.P.Place.keeps g.P.Place.shown c.self.inside.wires c.self.inside.count c.self.inside.places.items c.as_mut_slice-places.result.now w.do_send-answer.new.places (with_items c.self.inside.places w.do_send-answer.new.places).items lent
          (with_items_is c.self.inside.places w.do_send-answer.new.places (w.do_send-answer.auto.places ∙ c.as_mut_slice-places.ensures.len)) w.do_send-answer.result _ many w.in-Send.place _ w.do_send-answer.ensures)
      | in-Joint+then-can_near_at w ↦ rw (w.in-Joint.is, w.self-inside-is, w.answer-is) (joint_done g.T.TokenKind.kind g.P.Place.keeps g.P.Place.shown c.self.inside.wires c.self.inside.count c.self.inside.places.items c.as_mut_slice-places.result.now w.joint_from.new.places (with_items c.self.inside.places w.joint_from.new.places).items lent
          (with_items_is c.self.inside.places w.joint_from.new.places (w.joint_from.auto.places ∙ c.as_mut_slice-places.ensures.len)) w.joint_from.result w.in-Joint.near w.in-Joint.far w.in-Joint.joint (rw w.in-Joint.is at c.in_ok-asked.ensures.ends) w.joint_from.ensures)
      | in-Joint+else-can_near_at w ↦ rw (w.in-Joint.is, w.self-inside-is, w.answer-is) (joint_done g.T.TokenKind.kind g.P.Place.keeps g.P.Place.shown c.self.inside.wires c.self.inside.count c.self.inside.places.items c.as_mut_slice-places.result.now c.as_mut_slice-places.result.now (with_items c.self.inside.places c.as_mut_slice-places.result.now).items lent
          (with_items_is c.self.inside.places c.as_mut_slice-places.result.now c.as_mut_slice-places.ensures.len) _ w.in-Joint.near w.in-Joint.far w.in-Joint.joint (rw w.in-Joint.is at c.in_ok-asked.ensures.ends)
          (joint_unready g.T.TokenKind.kind g.P.Place.keeps w.in-Joint.near w.in-Joint.far w.in-Joint.joint _ _ (sym w.can_near_at.ensures ∙ w.if-can_near_at.false)))
    ]

pub invariant_of-self : goal.invariant_of-self
invariant_of-self g c =
    let did = acted g c in
    record {
      knows = subst (λ (plan : Plan). KnowWires plan (bases (map g.P.Place.shown c.match-asked.self-inside.places.items))) (sym did.plan) (subst (KnowWires c.self.inside.wires) (sym did.done.base) c.self.invariant.knows);
      live = live_all g.T.TokenKind.kind c.match-asked.self-inside.wires c.fill.new.self _ (subst IsPlan (sym did.plan) c.plan.ensures.kept) c.fill.ensures;
    }

pub returns-clause-done : goal.returns-clause-done
returns-clause-done g c =
    rw (sym c.self.view_is, c.answered-told.ensures)
    (event_done g.T.TokenKind.kind c.self.inside.wires c.args.event.now (acts_asked c.in_ok-asked.asked) c.in_ok-asked.ensures.acts g.P.Place.keeps (seatless c.self.inside.count) c.in_ok-asked.ensures.fault _ _ _ (acted g c).done)

-- a meter is told of the acts that the event asks
pub returns-clause-metered : goal.returns-clause-metered
returns-clause-metered g c =
    rw (sym c.self.view_is, c.answered-told.ensures)
    (c.tell.ensures ∙ told_meter g.T.TokenKind.kind g.M.Meter.sees g.P.Place.keeps c.self.inside.wires c.args.event.now (acts_asked c.in_ok-asked.asked) c.in_ok-asked.ensures.acts (seatless c.self.inside.count) _ _ c.args.meter.now _ (acted g c).done)
