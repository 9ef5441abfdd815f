use Rattle.{c104_node.specs.{Places.states, declared.port_part.PortPart.PortPart}, c104_plan.specs.Plans.Plan}
use Rattle.c104_run.proofs.{EngineParts.{does_so, none_yet, step_done, step_stops, steps_done}, HandedWords.{flat_worded, next_worded}}
use Rattle.c104_run.{proofs.{LiveRounds.idle_part, NotedSwitches.{noted_next, noted_rest, nothing_noted}}, specs.Engines.engine_network}
use Rattle.{c104_run.specs.{NotedSwitches.{ClaimsNone, GrantsNone, IsSoAt}, RoundParts.link_walk}, std.proofs.Common.{None, Some, arith}}
use Rattle.std.{proofs.Common.{length, map, subst, ◌∙◌}, specs.List.range_with_len}
use Rattle.c104_run.proofs.engine.Engine.turn_switches.Goals as goal

pub loop-switch-init : goal.loop-switch-init
loop-switch-init g c = (none_yet, nothing_noted ClaimsNone _ _, nothing_noted (GrantsNone g.T.TokenKind.kind c.args.self.now.plan) _ _)

pub loop-switch-preserved : goal.loop-switch-preserved
loop-switch-preserved g c =
    let inside = (c.in-Some.ensures.ports PortPart.Turn).found.1 in (
      step_done c.loop-switch.invariant.0 (next_worded g.T.TokenKind.kind (engine_network g.P.Place.shown c.loop-switch.self) c.args.words (link_walk c.loop-switch.self.plan PortPart.Turn) (range_with_len 0 (length c.loop-switch.self.plan.switches)) (length c.loop-switch.self.plan.switches) c.loop-switch.from (Some c.in-Some.switch) (c.in-Some.ensures.ports PortPart.Turn)) c.in_ok-done.ensures.does,
      noted_next ClaimsNone _ _ _ _ _ c.in_ok-done.ensures.others c.note.ensures.claiming c.loop-switch.from c.loop-switch.invariant.1
          (λ j from below n here. ((c.in-Some.ensures.passed j from below).idle n here).claims) c.note.ensures.claims,
      noted_next (GrantsNone g.T.TokenKind.kind c.args.self.now.plan) _ _ _ _ _ c.in_ok-done.ensures.others c.note.ensures.granting c.loop-switch.from c.loop-switch.invariant.2
          (λ j from below n here. subst (λ (p : Plan). GrantsNone g.T.TokenKind.kind p j n) c.loop-switch.invariant.0.done.plan (idle_part g.T.TokenKind.kind (engine_network g.P.Place.shown c.loop-switch.self) j (omega (arith, below, inside)) (c.in-Some.ensures.passed j from below) PortPart.Credit n here))
          (subst (λ (p : Plan). IsSoAt (GrantsNone g.T.TokenKind.kind p) c.note.new.noted.granting (states (map g.P.Place.shown c.turn_links.new.self.places)) c.in-Some.switch) (c.in_ok-done.ensures.does.plan ∙ c.loop-switch.invariant.0.done.plan) c.note.ensures.grants),
    )

pub returns-clause-does : goal.returns-clause-does
returns-clause-does g c =
    let next = next_worded g.T.TokenKind.kind (engine_network g.P.Place.shown c.loop-switch.self) c.args.words (link_walk c.loop-switch.self.plan PortPart.Turn) (range_with_len 0 (length c.loop-switch.self.plan.switches)) (length c.loop-switch.self.plan.switches) c.loop-switch.from None (c.in_default.ensures.ports PortPart.Turn) in
    does_so (flat_worded c.args.words (link_walk c.args.self.now.plan PortPart.Turn) (range_with_len 0 (length c.args.self.now.plan.switches))) (steps_done c.loop-switch.invariant.0 next)

pub returns-clause-noted : goal.returns-clause-noted
returns-clause-noted g c = record {
  claims = noted_rest ClaimsNone _ _ c.loop-switch.from (length c.args.self.now.plan.switches) c.loop-switch.invariant.1
      (λ j from below n here. ((c.in_default.ensures.passed j from (omega (arith, below, c.loop-switch.invariant.0.count))).idle n here).claims);
  grants = noted_rest (GrantsNone g.T.TokenKind.kind c.args.self.now.plan) _ _ c.loop-switch.from (length c.args.self.now.plan.switches) c.loop-switch.invariant.2
      (λ j from below n here. subst (λ (p : Plan). GrantsNone g.T.TokenKind.kind p j n) c.loop-switch.invariant.0.done.plan (idle_part g.T.TokenKind.kind (engine_network g.P.Place.shown c.loop-switch.self) j (omega (arith, below, c.loop-switch.invariant.0.count)) (c.in_default.ensures.passed j from (omega (arith, below, c.loop-switch.invariant.0.count))) PortPart.Credit n here));
}

pub returns-in_err-done-clause-does : goal.returns-in_err-done-clause-does
returns-in_err-done-clause-does g c =
    let next = next_worded g.T.TokenKind.kind (engine_network g.P.Place.shown c.loop-switch.self) c.args.words (link_walk c.loop-switch.self.plan PortPart.Turn) (range_with_len 0 (length c.loop-switch.self.plan.switches)) (length c.loop-switch.self.plan.switches) c.loop-switch.from (Some c.in-Some.switch) (c.in-Some.ensures.ports PortPart.Turn) in
    does_so (flat_worded c.args.words (link_walk c.args.self.now.plan PortPart.Turn) (range_with_len 0 (length c.args.self.now.plan.switches))) (step_stops c.loop-switch.invariant.0 next c.in_err-done.ensures.does c.from_residual.ensures)
