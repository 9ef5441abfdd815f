use Rattle.{c104_plan.proofs.NamesKept.number_of-kept, std.proofs.Common.{ap, bytes_eq, position, ◌∙◌}}

pub returns-clause-number : Rattle.c104_plan.proofs.name_index.NameIndex.number_of.Goals.returns-clause-number
returns-clause-number c = c.get_index_of.ensures.index ∙ number_of-kept c.self.inside.set.keys c.args.name.now ∙ ap (λ names. position (λ other. bytes_eq other c.args.name.now) names) c.self.view_is
