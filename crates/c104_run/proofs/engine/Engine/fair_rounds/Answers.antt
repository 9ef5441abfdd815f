use Rattle.{c104_node.{proofs.PlaceSteps.err_is, specs.Places.states}, c104_plan.specs.Plans.Plan, c104_run.proofs.FairRuns.fair_idle}
use Rattle.c104_run.proofs.{FairRuns.{fair_refused, fair_taken}, IdleRounds.meters_count, NotedSwitches.all_noted, WordedRounds.words_next}
use Rattle.c104_run.specs.{Engines.{EngineView, engine_at}, EventRuns.run_events, FairRounds.{InTurn, fair_events, fairly, in_turn}}
use Rattle.c104_run.specs.{HandedWords.{Words, words_behind}, Meters.{Metered, metered_apply}, NetRecords.largest_ticket}
use Rattle.{c104_run.specs.NotedSwitches.{AreSo, GrantsNone}, std.proofs.Common.{ap, arith, inl, length, map, refl, subst, sym, ◌<◌, ◌∙◌}}
use Rattle.std.proofs.Common.{◌≡◌}
use Rattle.c104_run.proofs.engine.Engine.fair_rounds.Goals as goal

pub loop-round-init : goal.loop-round-init
loop-round-init g c = record { done = refl; plan = refl; handed = refl; grants = all_noted (GrantsNone g.T.TokenKind.kind c.args.self.now.plan) _ (states (map g.P.Place.shown c.args.self.now.places)) 0 (length c.args.self.now.plan.switches) c.all-noted.ensures }

pub fair_round_by-requires : goal.fair_round_by-requires
fair_round_by-requires g c = subst (λ (p : Plan). AreSo (GrantsNone g.T.TokenKind.kind p) c.loop-round.noted.granting (states (map g.P.Place.shown c.loop-round.self.places)) 0 (length p.switches)) (sym c.loop-round.invariant.plan) c.loop-round.invariant.grants

pub returns-clause-ends : goal.returns-clause-ends
returns-clause-ends g c =
    let all : c.loop-round.round ≡ c.args.times = omega arith in
    inl (sym (ap (λ n. run_events (fairly (metered_apply g.T.TokenKind.kind g.P.Place.keeps g.M.Meter.sees)) (in_turn (engine_at g.P.Place.shown c.args.self.now c.args.meter.now) c.args.turns.now) (fair_events (metered_apply g.T.TokenKind.kind g.P.Place.keeps g.M.Meter.sees) c.args.words c.args.self.now.plan n (in_turn (engine_at g.P.Place.shown c.args.self.now c.args.meter.now) c.args.turns.now))) (sym all) ∙ c.loop-round.invariant.done))

pub returns-in_err-changed-clause-ends : goal.returns-in_err-changed-clause-ends
returns-in_err-changed-clause-ends g c =
    rw (err_is _ _ c.from_residual.ensures)
    (fair_refused (metered_apply g.T.TokenKind.kind g.P.Place.keeps g.M.Meter.sees) c.args.self.now.plan c.args.words (in_turn (engine_at g.P.Place.shown c.args.self.now c.args.meter.now) c.args.turns.now) (in_turn (engine_at g.P.Place.shown c.loop-round.self c.loop-round.meter) c.loop-round.turns) (in_turn (engine_at g.P.Place.shown c.fair_round_by.new.self c.fair_round_by.new.meter) c.fair_round_by.new.turns) c.loop-round.round c.loop-round.invariant.done c.args.times c.loop-round-test.true c.in_err-changed.field-0.0
    (rw (sym c.loop-round.invariant.handed, sym c.loop-round.invariant.plan) c.in_err-changed.ensures.does.ends.ends))

pub returns-in_err-changed-clause-plan : goal.returns-in_err-changed-clause-plan
returns-in_err-changed-clause-plan g c = c.in_err-changed.ensures.does.plan ∙ c.loop-round.invariant.plan

pub loop-round-preserved : goal.loop-round-preserved
loop-round-preserved g c =
    let on = c.in_ok-changed.ensures.does.plan ∙ c.loop-round.invariant.plan in
    record {
      done =
          fair_taken (metered_apply g.T.TokenKind.kind g.P.Place.keeps g.M.Meter.sees) c.args.self.now.plan c.args.words (in_turn (engine_at g.P.Place.shown c.args.self.now c.args.meter.now) c.args.turns.now) (in_turn (engine_at g.P.Place.shown c.loop-round.self c.loop-round.meter) c.loop-round.turns) (in_turn (engine_at g.P.Place.shown c.fair_round_by.new.self c.fair_round_by.new.meter) c.fair_round_by.new.turns) c.loop-round.round c.loop-round.invariant.done
          (rw (sym c.loop-round.invariant.handed, sym c.loop-round.invariant.plan) c.in_ok-changed.ensures.does.ends.ends.0);
      plan = on;
      handed =
          c.next-handed.ensures ∙ ap (λ n. words_behind c.loop-round.handed n) (c.switch_count.ensures.count ∙ ap (λ (p : Plan). length p.switches) on)
          ∙ ap (λ (w : Words). words_behind w (length c.args.self.now.plan.switches)) c.loop-round.invariant.handed
          ∙ words_next c.args.words (length c.args.self.now.plan.switches) c.loop-round.round;
      grants = subst (λ (p : Plan). AreSo (GrantsNone g.T.TokenKind.kind p) c.fair_round_by.new.noted.granting (states (map g.P.Place.shown c.fair_round_by.new.self.places)) 0 (length p.switches)) c.loop-round.invariant.plan c.in_ok-changed.ensures.grants;
    }

pub returns-then-self-lt18446744073709551615-clause-ends : goal.returns-then-self-lt18446744073709551615-clause-ends
returns-then-self-lt18446744073709551615-clause-ends g c =
    let same = c.in_ok-changed.ensures.does.ends.ends.1 c.if-not-changed.true in
    let count : c.fair_round_by.new.self.count ≡ c.loop-round.self.count = ap (λ (x : InTurn (Metered g.row.T.Denot g.row.M.Denot)). x.state.stage.count) same in
    let there : c.self.inside.count ≡ c.loop-round.self.count = ap (λ (e : EngineView g.row.P.Denot). e.count) c.self.view_is ∙ count in
    fair_idle (metered_apply g.T.TokenKind.kind g.P.Place.keeps g.M.Meter.sees) c.args.self.now.plan c.args.words (in_turn (engine_at g.P.Place.shown c.args.self.now c.args.meter.now) c.args.turns.now) (in_turn (engine_at g.P.Place.shown c.loop-round.self c.loop-round.meter) c.loop-round.turns) (in_turn (engine_at g.P.Place.shown c.fair_round_by.new.self c.fair_round_by.new.meter) c.fair_round_by.new.turns) c.loop-round.round c.loop-round.invariant.done c.args.times c.loop-round-test.true (λ x. x.stage.count) (meters_count g.T.TokenKind.kind g.P.Place.keeps g.M.Meter.sees)
    (rw (sym c.loop-round.invariant.handed, sym c.loop-round.invariant.plan) (inl (sym c.in_ok-changed.ensures.does.ends.ends.0))) (subst (λ n. n < largest_ticket) there c.if-self-lt18446744073709551615.true) (omega (arith, count))
