use Rattle.{c104_plan.{proofs.NamesKept.inserted-kept, specs.PlanIndex.texts}, std.proofs.Common.{[], ap, bytes_eq, false, rules, ◌++◌}}
use Rattle.std.{proofs.Common.{◌∙◌, ◌∷◌, ◌≡◌}, specs.List.list_any}

pub returns-clause-names : Rattle.c104_plan.proofs.name_index.NameIndex.insert.Goals.returns-clause-names
returns-clause-names c =
    let copied : c.in_ok-name.name.items ≡ c.args.name.now = search rules in
    let none : list_any (λ other. bytes_eq other c.in_ok-name.name.items) (texts c.self.inside.set.keys) ≡ false =
    (λ i. list_any (λ other. bytes_eq other (copied i)) (c.self.view_is i)) ∙ c.requires in
    ap texts c.in_ok-insert_full.ensures.keys ∙ inserted-kept c.self.inside.set.keys c.in_ok-name.name none ∙ (λ i. c.self.view_is i ++ copied i ∷ [])
