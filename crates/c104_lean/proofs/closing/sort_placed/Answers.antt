use Rattle.{c104_lean.specs.Closing.place_of, std.proofs.{Common.rules, lemmas.List.Sorted.IsNonDecreasingBy-from_sort_by_key}}

pub returns-clause-rising : Rattle.c104_lean.proofs.closing.sort_placed.Goals.returns-clause-rising
returns-clause-rising c =
    IsNonDecreasingBy-from_sort_by_key place_of _ c.sort_unstable_by_key.ensures.sorted (λ a r q k. search rules)
