use Rattle.{c104_plan.{proofs.RowPlanSteps.names-with_ranges, specs.Plans.Terminal}, std.proofs.Common.{ap, map, sym, ◌∙◌}}

-- the terminals have the names that they had
pub invariant_of-self : Rattle.c104_plan.proofs.terminal_list.TerminalList.set_ranges.Goals.invariant_of-self
invariant_of-self c = c.self.invariant ∙ sym (names-with_ranges c.args.ranges.now c.self.inside.list.items) ∙ ap (map (λ (t : Terminal). t.name)) (sym c.set_ranges.ensures)
