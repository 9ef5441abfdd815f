use Rattle.{c104_interval.proofs.SelectionLemmas.IsSelected-from, std.proofs.Common.◌∙◌}

pub returns-clause-first_covering : Rattle.c104_regs.proofs.packed.PackedSettings.select.Goals.returns-clause-first_covering
returns-clause-first_covering c = IsSelected-from _ _ _ (c.select_of.ensures ∙ c.code.ensures)
