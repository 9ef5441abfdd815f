use Rattle.{c104_node.specs.{Places.states, declared.port_part.PortPart.PortPart}, c104_plan.specs.{Plans.Plan, declared.ports.Port.Port}}
use Rattle.c104_run.{proofs.EngineParts.SoFar, specs.{Engines.engine_network, HandedWords.all_worded, LinkedSets.HasReady}}
use Rattle.{c104_run.specs.{NotedSwitches.LeavesOthers, RoundParts.port_walk, Rounds.link_numbers}, std.proofs.Common.{map, ℕ, ◌-◌}}
use Rattle.c104_run.proofs.engine.Engine.turn_links.Given as goal

-- the turns of the links so far, which leave the nodes at all other places
abbrev pub invariant-loop-link : goal.invariant-loop-link
invariant-loop-link g l = SoFar g.T.TokenKind.kind g.P.Place.keeps g.M.Meter.sees g.P.Place.shown (λ (plan : Plan) (j : ℕ). all_worded l.words (port_walk plan PortPart.Turn (Port.Switch l.switch) j)) (λ (plan : Plan). link_numbers) (λ (plan : Plan). 32) l.initial.self l.initial.meter l.from l.changed l.self l.meter
    × LeavesOthers l.switch (states (map g.P.Place.shown l.initial.self.places)) (states (map g.P.Place.shown l.self.places))
    × HasReady g.T.TokenKind.kind PortPart.Turn l.switch (engine_network g.P.Place.shown l.self) l.from l.ready

abbrev pub decreases-loop-link : goal.decreases-loop-link
decreases-loop-link g l = 32 - l.from
