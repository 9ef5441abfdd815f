use Rattle.{c104_plan.specs.{Plans.Plan, declared.ports.Port.Port}, c104_run.{proofs.EngineParts.SoFar, specs.RoundParts.crossing_part}}
use Rattle.{c104_run.specs.RoundParts.port_walk, std.{proofs.Common.{length, ◌-◌}, specs.List.range_with_len}}
use Rattle.c104_run.proofs.engine.Engine.walk_terminals.Given as goal

-- the events of the terminals so far
abbrev pub invariant-loop-terminal : goal.invariant-loop-terminal
invariant-loop-terminal g l = SoFar g.T.TokenKind.kind g.P.Place.keeps g.M.Meter.sees g.P.Place.shown (λ (plan : Plan). port_walk plan (crossing_part l.crossing) Port.Terminal) (λ (plan : Plan). range_with_len 0 (length plan.terminals)) (λ (plan : Plan). length plan.terminals) l.initial.self l.initial.meter l.from l.changed l.self l.meter

abbrev pub decreases-loop-terminal : goal.decreases-loop-terminal
decreases-loop-terminal g l = length l.initial.self.plan.terminals - l.from
