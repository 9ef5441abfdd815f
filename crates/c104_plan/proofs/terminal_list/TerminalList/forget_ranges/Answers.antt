use Rattle.{c104_plan.{proofs.NamesKept.same_names, specs.Plans.Terminal}, std.proofs.Common.{ap, map, sym, ◌∙◌}}

-- the terminals have the names that they had
pub invariant_of-self : Rattle.c104_plan.proofs.terminal_list.TerminalList.forget_ranges.Goals.invariant_of-self
invariant_of-self c = c.self.invariant ∙ sym (same_names c.self.inside.list.items) ∙ ap (map (λ (t : Terminal). t.name)) (sym c.forget_firsts.ensures)
