use Rattle.{c104_node.specs.declared.port_part.PortPart.PortPart, c104_plan.specs.declared.ports.Port.Port}
use Rattle.c104_run.proofs.{EngineParts.{does_so, step_done, step_stops, steps_done}, HandedWords.{flat_worded, next_worded}}
use Rattle.c104_run.{proofs.{NotedSwitches.others_on, PortWalks.ready_on}, specs.{Engines.engine_network, RoundParts.port_walk}}
use Rattle.{c104_run.specs.Rounds.link_numbers, std.proofs.Common.{None, Some}}
use Rattle.c104_run.proofs.engine.Engine.turn_links.Goals as goal

pub loop-link-preserved : goal.loop-link-preserved
loop-link-preserved g c =
    let next = next_worded g.T.TokenKind.kind (engine_network g.P.Place.shown c.loop-link.self) c.args.words (port_walk c.loop-link.self.plan PortPart.Turn (Port.Switch c.args.switch)) link_numbers 32 c.loop-link.from (Some c.in-Some.link) c.in-Some.ensures.next in
    (step_done c.loop-link.invariant.0 next c.in_ok-done.ensures.does, others_on c.loop-link.invariant.1 c.in_ok-done.ensures.others, ready_on _ _ _ _ _ _ _ _ c.loop-link.invariant.2 c.in-Some.ensures.next.found.0 c.in_ok-done.ensures.does.plan c.in_ok-done.ensures.links)

pub returns-clause-does : goal.returns-clause-does
returns-clause-does g c =
    let next = next_worded g.T.TokenKind.kind (engine_network g.P.Place.shown c.loop-link.self) c.args.words (port_walk c.loop-link.self.plan PortPart.Turn (Port.Switch c.args.switch)) link_numbers 32 c.loop-link.from None c.in_default.ensures.next in
    does_so (flat_worded c.args.words (port_walk c.args.self.now.plan PortPart.Turn (Port.Switch c.args.switch)) link_numbers) (steps_done c.loop-link.invariant.0 next)

pub returns-clause-others : goal.returns-clause-others
returns-clause-others g c = c.loop-link.invariant.1

pub returns-in_err-done-clause-does : goal.returns-in_err-done-clause-does
returns-in_err-done-clause-does g c =
    let next = next_worded g.T.TokenKind.kind (engine_network g.P.Place.shown c.loop-link.self) c.args.words (port_walk c.loop-link.self.plan PortPart.Turn (Port.Switch c.args.switch)) link_numbers 32 c.loop-link.from (Some c.in-Some.link) c.in-Some.ensures.next in
    does_so (flat_worded c.args.words (port_walk c.args.self.now.plan PortPart.Turn (Port.Switch c.args.switch)) link_numbers) (step_stops c.loop-link.invariant.0 next c.in_err-done.ensures.does c.from_residual.ensures)

pub returns-in_err-done-clause-others : goal.returns-in_err-done-clause-others
returns-in_err-done-clause-others g c = others_on c.loop-link.invariant.1 c.in_err-done.ensures.others
