use Rattle.{c104_crossbar.proofs.BitMarks.{claimed_is, claimed_keeps}, std.proofs.Common.{sym, ◌∙◌}}
use Rattle.c104_crossbar.proofs.crossbar.Crossbar.claim.Goals as goal

pub returns-clause-claimed : goal.returns-clause-claimed
returns-clause-claimed c = claimed_is c.self.inside.taken c.args.output c.args.self.now c.self.view_is (c.free.ensures.below c.if-not-free.false) (sym c.free.ensures.free ∙ c.if-not-free.false)

pub returns-clause-partition : goal.returns-clause-partition
returns-clause-partition c = claimed_keeps c.self.inside.taken c.args.output c.args.self.now c.self.view_is (c.free.ensures.below c.if-not-free.false) (sym c.free.ensures.free ∙ c.if-not-free.false)
