use Rattle.{c104_plan.proofs.NamesKept.is_there-kept, std.{proofs.Common.{ap, bytes_eq, ◌∙◌}, specs.List.list_any}}

pub returns : Rattle.c104_plan.proofs.name_index.NameIndex.has.Goals.returns
returns c = c.contains.ensures ∙ is_there-kept c.self.inside.set.keys c.args.name.now ∙ ap (λ names. list_any (λ other. bytes_eq other c.args.name.now) names) c.self.view_is
