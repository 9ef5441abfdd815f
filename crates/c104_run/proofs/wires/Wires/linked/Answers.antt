use Rattle.{c104_crossbar.specs.Groups.has_bit, c104_plan.specs.{Plans.IsPlan, declared.ports.Port.Port}}
use Rattle.{c104_run.{proofs.WiredPorts.has_wire, specs.Rounds.is_wired}, std.proofs.Common.{ap, arith, length, subst, sym, ◌<◌, ◌∙◌}}
use Rattle.std.proofs.lemmas.List.{get_or_read}
use Rattle.c104_run.proofs.wires.Wires.linked.Goals as goal

pub index-requires : goal.index-requires
index-requires c =
    let counted = c.self.invariant.2.counted in
    let inside : c.args.switch < length c.self.inside.plan.switches = rw c.self.view_is c.requires in
    omega (arith, counted, inside)

pub returns-clause-linked : goal.returns-clause-linked
returns-clause-linked c = λ l below.
    let counted = c.self.invariant.2.counted in
    let inside : c.args.switch < length c.self.inside.plan.switches = rw c.self.view_is c.requires in
    ap (λ w. has_bit w l) (get_or_read c.self.inside.linked.items _ _ (omega (arith, counted, inside)) c.index.ensures 0)
    ∙ c.self.invariant.2.linked c.args.switch l inside below
    ∙ ap (λ plan. is_wired plan (Port.Switch c.args.switch l)) c.self.view_is

pub returns-clause-wired : goal.returns-clause-wired
returns-clause-wired c = λ l below is. has_wire c.args.self.now (subst IsPlan c.self.view_is c.switches-switches.ensures.kept) (Port.Switch c.args.switch l) (sym (returns-clause-linked c l below) ∙ is)
