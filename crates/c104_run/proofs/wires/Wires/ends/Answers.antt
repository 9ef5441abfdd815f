use Rattle.{c104_run.{proofs.BalanceWires.far_apart, specs.FarEnds.far_end}, std.proofs.Common.{ap, sym, ◌∙◌}}

pub returns-clause-apart : Rattle.c104_run.proofs.wires.Wires.ends.Goals.returns-clause-apart
returns-clause-apart c = far_apart c.self.inside.plan c.switches-switches.ensures.kept c.args.port c.end_of.result c.in-Some.far c.end_of.ensures (ap (λ plan. far_end plan c.args.port) c.self.view_is ∙ sym c.far_end.ensures ∙ c.in-Some.is)
