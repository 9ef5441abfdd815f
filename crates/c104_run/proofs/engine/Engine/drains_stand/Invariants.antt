use Rattle.{c104_event.specs.declared.events.Event.Event, c104_run.proofs.{PartRuns.single, StillParts.{left, tested}}}
use Rattle.{c104_run.specs.{Engines.engine_network, Standstill.has_reason}, std.proofs.Common.{length, ◌≡◌}}

-- those that are left tell it
abbrev pub invariant-loop-terminal : Rattle.c104_run.proofs.engine.Engine.drains_stand.Given.invariant-loop-terminal
invariant-loop-terminal g l = left (has_reason (engine_network g.P.Place.shown l.self)) (single Event.Drain) (length l.self.plan.terminals) l.terminal ≡ tested (has_reason (engine_network g.P.Place.shown l.self)) (single Event.Drain) (length l.self.plan.terminals)
