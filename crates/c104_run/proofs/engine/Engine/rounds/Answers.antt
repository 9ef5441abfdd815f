use Rattle.{c104_node.{proofs.PlaceSteps.err_is, specs.Places.states}, c104_plan.specs.Plans.Plan, c104_run.proofs.IdleRounds.meters_count}
use Rattle.c104_run.proofs.{IdleRounds.words_idle, NotedSwitches.all_noted, WordedRounds.{words_next, words_refused, words_taken}}
use Rattle.c104_run.specs.{Engines.{EngineView, engine_at}, EventRuns.run_events, HandedWords.{Words, round_with, rounds_with}}
use Rattle.c104_run.specs.{HandedWords.words_behind, Meters.{Metered, metered_apply}, NetRecords.largest_ticket, NotedSwitches.AreSo}
use Rattle.{c104_run.specs.NotedSwitches.GrantsNone, std.proofs.Common.{ap, arith, inl, length, map, refl, subst, sym, ◌<◌, ◌∙◌, ◌≡◌}}
use Rattle.c104_run.proofs.engine.Engine.rounds.Goals as goal

pub loop-round-init : goal.loop-round-init
loop-round-init g c = record { done = refl; plan = refl; handed = refl; grants = all_noted (GrantsNone g.T.TokenKind.kind c.args.self.now.plan) _ (states (map g.P.Place.shown c.args.self.now.places)) 0 (length c.args.self.now.plan.switches) c.all-noted.ensures }

pub round_by-requires : goal.round_by-requires
round_by-requires g c = subst (λ (p : Plan). AreSo (GrantsNone g.T.TokenKind.kind p) c.loop-round.noted.granting (states (map g.P.Place.shown c.loop-round.self.places)) 0 (length p.switches)) (sym c.loop-round.invariant.plan) c.loop-round.invariant.grants

pub returns-clause-ends : goal.returns-clause-ends
returns-clause-ends g c =
    let all : c.loop-round.round ≡ c.args.times = omega arith in
    inl (sym (ap (λ n. run_events (metered_apply g.T.TokenKind.kind g.P.Place.keeps g.M.Meter.sees) (engine_at g.P.Place.shown c.args.self.now c.args.meter.now) (rounds_with c.args.words c.args.self.now.plan n)) (sym all) ∙ c.loop-round.invariant.done))

pub returns-in_err-changed-clause-ends : goal.returns-in_err-changed-clause-ends
returns-in_err-changed-clause-ends g c =
    rw (err_is _ _ c.from_residual.ensures)
    (words_refused (metered_apply g.T.TokenKind.kind g.P.Place.keeps g.M.Meter.sees) c.args.self.now.plan c.args.words (engine_at g.P.Place.shown c.args.self.now c.args.meter.now) (engine_at g.P.Place.shown c.loop-round.self c.loop-round.meter) (engine_at g.P.Place.shown c.round_by.new.self c.round_by.new.meter) c.loop-round.round c.args.times c.in_err-changed.field-0.0 c.loop-round-test.true c.loop-round.invariant.done
    (rw (sym c.loop-round.invariant.handed, sym c.loop-round.invariant.plan) c.in_err-changed.ensures.does.ends.ends))

pub returns-in_err-changed-clause-plan : goal.returns-in_err-changed-clause-plan
returns-in_err-changed-clause-plan g c = c.in_err-changed.ensures.does.plan ∙ c.loop-round.invariant.plan

pub loop-round-preserved : goal.loop-round-preserved
loop-round-preserved g c =
    let on = c.in_ok-changed.ensures.does.plan ∙ c.loop-round.invariant.plan in
    record {
      done =
          words_taken (metered_apply g.T.TokenKind.kind g.P.Place.keeps g.M.Meter.sees) c.args.self.now.plan c.args.words (engine_at g.P.Place.shown c.args.self.now c.args.meter.now) (engine_at g.P.Place.shown c.loop-round.self c.loop-round.meter) (engine_at g.P.Place.shown c.round_by.new.self c.round_by.new.meter) c.loop-round.round c.loop-round.invariant.done
          (rw (sym c.loop-round.invariant.handed, sym c.loop-round.invariant.plan) c.in_ok-changed.ensures.does.ends.ends.0);
      plan = on;
      handed =
          c.next-handed.ensures ∙ ap (λ n. words_behind c.loop-round.handed n) (c.switch_count.ensures.count ∙ ap (λ (p : Plan). length p.switches) on)
          ∙ ap (λ (w : Words). words_behind w (length c.args.self.now.plan.switches)) c.loop-round.invariant.handed
          ∙ words_next c.args.words (length c.args.self.now.plan.switches) c.loop-round.round;
      grants = subst (λ (p : Plan). AreSo (GrantsNone g.T.TokenKind.kind p) c.round_by.new.noted.granting (states (map g.P.Place.shown c.round_by.new.self.places)) 0 (length p.switches)) c.loop-round.invariant.plan c.in_ok-changed.ensures.grants;
    }

pub returns-then-self-lt18446744073709551615-clause-ends : goal.returns-then-self-lt18446744073709551615-clause-ends
returns-then-self-lt18446744073709551615-clause-ends g c =
    let same = c.in_ok-changed.ensures.does.ends.ends.1 c.if-not-changed.true in
    let count : c.round_by.new.self.count ≡ c.loop-round.self.count = ap (λ (x : Metered g.row.T.Denot g.row.M.Denot). x.stage.count) same in
    let there : c.self.inside.count ≡ c.loop-round.self.count = ap (λ (e : EngineView g.row.P.Denot). e.count) c.self.view_is ∙ count in
    inl (sym (words_idle (metered_apply g.T.TokenKind.kind g.P.Place.keeps g.M.Meter.sees) (λ x. x.stage.count) (meters_count g.T.TokenKind.kind g.P.Place.keeps g.M.Meter.sees) c.args.self.now.plan c.args.words (engine_at g.P.Place.shown c.args.self.now c.args.meter.now) (engine_at g.P.Place.shown c.loop-round.self c.loop-round.meter) (engine_at g.P.Place.shown c.round_by.new.self c.round_by.new.meter) c.loop-round.round c.args.times c.loop-round-test.true c.loop-round.invariant.done
    (rw (sym c.loop-round.invariant.handed, sym c.loop-round.invariant.plan) (inl (sym c.in_ok-changed.ensures.does.ends.ends.0))) (subst (λ n. n < largest_ticket) there c.if-self-lt18446744073709551615.true) (omega (arith, count))))
