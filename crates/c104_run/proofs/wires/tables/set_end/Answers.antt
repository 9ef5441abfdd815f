use Rattle.{c104_plan.specs.Ports.IsSwitchPort, c104_run.{proofs.EndTables.end_set, specs.FarEnds.{ends_by, with_end}}}
use Rattle.std.proofs.Common.{ap, length, subst, sym, ◌∙◌}

pub returns-clause-set : Rattle.c104_run.proofs.wires.tables.set_end.Goals.returns-clause-set
returns-clause-set c = λ before are.
    let here = subst (IsSwitchPort (length c.args.plan.now.switches)) c.in-Switch.is c.requires.inside in
    end_set before (length c.args.plan.now.switches) c.in-Switch.switch c.in-Switch.link c.args.far here.0 here.1 c.args.ends.now are
    ∙ ap (λ p. ends_by (with_end before p c.args.far) (length c.args.plan.now.switches)) (sym c.in-Switch.is)
