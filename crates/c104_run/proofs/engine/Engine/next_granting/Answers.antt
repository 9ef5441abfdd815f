use Rattle.{c104_node.specs.declared.port_part.PortPart.PortPart, c104_run.proofs.{LiveRounds.unready_ports, PortWalks.if_some}}
use Rattle.{c104_run.{proofs.PortWalks.next_found, specs.Engines.engine_network}, std.proofs.Common.{IfSome, length, refl, sym, ◌<◌, ◌≤◌}}

pub returns-clause-next : Rattle.c104_run.proofs.engine.Engine.next_granting.Goals.returns-clause-next
returns-clause-next g c =
    let found : IfSome c.next.result (λ k. (c.args.from ≤ k) × (k < length c.args.self.now.plan.switches)) = rw (sym c.switch_count.ensures.count) (if_some _ _ c.next.result (λ k is. (is.0, is.1)) c.next.ensures.found) in
    next_found g.T.TokenKind.kind (engine_network g.P.Place.shown c.args.self.now) _ _ _ _ _ refl (found)
    (λ k inside above below. unready_ports g.T.TokenKind.kind (engine_network g.P.Place.shown c.args.self.now) k inside c.plan-plan.ensures.kept PortPart.Credit (c.requires.each k above inside (c.next.ensures.passed k above (rw c.switch_count.ensures.count below))))
