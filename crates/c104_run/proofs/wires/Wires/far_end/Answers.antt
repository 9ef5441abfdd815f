use Rattle.{c104_plan.specs.declared.ports.Port.Port, c104_run.{proofs.FarEndLists.{terminal_at, terminals_counted}, specs.FarEnds.far_end}}
use Rattle.std.proofs.{Common.{None, ap, arith, length, ◌<◌, ◌∙◌}, lemmas.List.get_or_read}
use Rattle.c104_run.proofs.wires.Wires.far_end.Goals as goal

pub index-requires : goal.index-requires
index-requires c =
    let counted = terminals_counted c.self.inside.plan c.self.inside.terminals.items c.self.invariant.1 in
    let inside : c.in-Terminal.terminal < length c.self.inside.plan.terminals = rw c.self.view_is (rw c.in-Terminal.is at c.requires) in
    omega (arith, counted, inside, c.self.inside.terminals.ok.0)

pub returns-in-Terminal : goal.returns-in-Terminal
returns-in-Terminal c =
    let counted = terminals_counted c.self.inside.plan c.self.inside.terminals.items c.self.invariant.1 in
    let inside : c.in-Terminal.terminal < length c.self.inside.plan.terminals = rw c.self.view_is (rw c.in-Terminal.is at c.requires) in
    rw c.in-Terminal.is (get_or_read c.self.inside.terminals.items _ _ (omega (arith, counted, inside)) c.index.ensures None
    ∙ terminal_at c.self.inside.plan c.self.inside.terminals.items c.self.invariant.1 c.in-Terminal.terminal None inside
    ∙ ap (λ plan. far_end plan (Port.Terminal c.in-Terminal.terminal)) c.self.view_is)
