use Rattle.{c104_run.proofs.PortWalks.if_some, std.proofs.Common.sym}
use Rattle.c104_run.proofs.engine.Engine.next_live.Goals as goal

pub returns-clause-passed : goal.returns-clause-passed
returns-clause-passed g c = λ k above below. rw (sym c.self.view_is) (c.self.invariant.live.idle k (c.next.ensures.passed k above below))

pub returns-clause-found : goal.returns-clause-found
returns-clause-found g c = if_some _ _ c.next.result (λ k is. (is.0, is.1)) c.next.ensures.found
