use Rattle.{c104_plan.specs.declared.ports.Port.Port, c104_run.{proofs.StillParts.{left, tested}, specs.Engines.engine_network}}
use Rattle.{c104_run.specs.{RoundParts.port_walk, Standstill.has_reason}, std.proofs.Common.{length, ◌≡◌}}

-- those that are left tell it
abbrev pub invariant-loop-terminal : Rattle.c104_run.proofs.engine.Engine.terminals_stand.Given.invariant-loop-terminal
invariant-loop-terminal g l = left (has_reason (engine_network g.P.Place.shown l.self)) (port_walk l.self.plan l.part Port.Terminal) (length l.self.plan.terminals) l.terminal ≡ tested (has_reason (engine_network g.P.Place.shown l.self)) (port_walk l.self.plan l.part Port.Terminal) (length l.self.plan.terminals)
