use Rattle.{c104_run.{proofs.{LiveRounds.idle_ports, PortWalks.next_found}, specs.Engines.engine_network}, std.proofs.Common.refl}
use Rattle.c104_run.proofs.engine.Engine.next_switch.Goals as goal

pub returns-clause-ports : goal.returns-clause-ports
returns-clause-ports g c = λ part.
    next_found g.T.TokenKind.kind (engine_network g.P.Place.shown c.args.self.now) _ _ _ _ _ refl (rw c.switch_count.ensures.count at c.next_live.ensures.found)
    (λ k inside above below. idle_ports g.T.TokenKind.kind (engine_network g.P.Place.shown c.args.self.now) k inside (c.next_live.ensures.passed k above (rw c.switch_count.ensures.count below)) part)

pub returns-clause-passed : goal.returns-clause-passed
returns-clause-passed g c = rw c.switch_count.ensures.count at c.next_live.ensures.passed
