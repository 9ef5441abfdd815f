use Rattle.{c104_crossbar.proofs.BitMarks.{freed_is, freed_keeps}, std.proofs.Common.sym}
use Rattle.c104_crossbar.proofs.crossbar.Crossbar.release.Goals as goal

pub returns-clause-released : goal.returns-clause-released
returns-clause-released c = rw (sym c.claim.view_is) (freed_is c.self.inside.taken c.claim.inside.output c.args.self.now c.self.view_is c.claim.invariant)

pub returns-clause-partition : goal.returns-clause-partition
returns-clause-partition c = rw (sym c.claim.view_is) (freed_keeps c.self.inside.taken c.claim.inside.output c.args.self.now c.self.view_is c.claim.invariant (rw (sym c.claim.view_is) at c.requires))
