use Rattle.{c104_storm.proofs.SortedArrivals.{arrivals_sorted, place_of}, std.proofs.{Common.rules, lemmas.List.Sorted.answers_always}}

pub returns : Rattle.c104_storm.proofs.packets.sorted_arrivals.Goals.returns
returns c =
    arrivals_sorted _ _ _ _ c.in_ok-arrivals.ensures c.sort_by_key.ensures.permutation
    (c.in_ok-sort_by_key.ensures.sorted place_of (answers_always _ _ _ (λ f a r g h. search rules)))
