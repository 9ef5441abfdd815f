use Rattle.{c104_plan.proofs.NamesKept.texts_copied, std.proofs.Common.◌∙◌}

pub returns : Rattle.c104_plan.proofs.name_index.NameIndex.copy.Goals.returns
returns c = texts_copied c.self.inside.set.keys c.in_ok-set.set.keys c.in_ok-set.ensures.cases ∙ c.self.view_is
