use Rattle.{c104_run.proofs.EndTables.none_yet, std.proofs.Common.{List, ap, length, ℕ, ◌*◌, ◌∙◌}}

pub add_wires-requires : Rattle.c104_run.proofs.wires.tables.link_ends.Goals.add_wires-requires
add_wires-requires c =
    c.deref_mut.ensures.value ∙ c.in_ok-ends.ensures ∙ none_yet c.args.plan.now (length c.args.plan.now.switches) _ (ap (λ (xs : List (List ℕ)). length xs * 32) c.switches.ensures.switches)
