use Rattle.{c104_node.specs.Places.states, c104_run.{proofs.LaterWords.words_after, specs.{Engines.engine_at, EventRuns.run_events}}}
use Rattle.{c104_run.specs.{HandedWords.rounds_with, Meters.metered_apply, NotedSwitches.{AreSo, GrantsNone}}, std.proofs.Common.Ok}
use Rattle.std.proofs.Common.{length, map, ◌≡◌}

-- the rounds so far are done without a fault, their words are handed on, and what they noted of grants holds
abbrev pub invariant-loop-round : Rattle.c104_run.proofs.engine.Engine.rounds.Given.invariant-loop-round
invariant-loop-round g l = record {
  done : run_events (metered_apply g.T.TokenKind.kind g.P.Place.keeps g.M.Meter.sees) (engine_at g.P.Place.shown l.initial.self l.initial.meter) (rounds_with l.fn.words l.initial.self.plan l.round) ≡ (Ok tt, engine_at g.P.Place.shown l.self l.meter);
  plan : l.self.plan ≡ l.initial.self.plan;
  handed : l.handed ≡ words_after l.fn.words (length l.initial.self.plan.switches) l.round;
  grants : AreSo (GrantsNone g.T.TokenKind.kind l.initial.self.plan) l.noted.granting (states (map g.P.Place.shown l.self.places)) 0 (length l.initial.self.plan.switches);
}
