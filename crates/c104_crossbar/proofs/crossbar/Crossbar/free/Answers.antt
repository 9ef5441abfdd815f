use Rattle.{c104_crossbar.{proofs.BitMarks.{free_past, free_within}, specs.Marks.is_free}, std.proofs.Common.{ap, arith, not, sym, ◌∙◌}}
use Rattle.c104_crossbar.proofs.crossbar.Crossbar.free.Goals as goal

pub returns-then-output-ge-LINKS-clause-free : goal.returns-then-output-ge-LINKS-clause-free
returns-then-output-ge-LINKS-clause-free c = sym (free_past c.self.inside.taken c.args.output c.if-output-ge-LINKS.true) ∙ ap (λ marks. is_free marks c.args.output) c.self.view_is

pub returns-clause-free : goal.returns-clause-free
returns-clause-free c = ap not c.has_bit.ensures ∙ sym (free_within c.self.inside.taken c.args.output (omega (arith, c.if-output-ge-LINKS.false))) ∙ ap (λ marks. is_free marks c.args.output) c.self.view_is
