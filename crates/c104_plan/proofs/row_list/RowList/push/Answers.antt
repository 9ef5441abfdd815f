use Rattle.{c104_plan.{proofs.RowCounts.counted_next, specs.PlanIndex.{AreCounted, input_place}}, std.proofs.Common.{List, ap, get_or}}
use Rattle.std.proofs.{Common.{length, set, subst, sym, ℕ, ◌+◌, ◌<◌, ◌∙◌, ◌≡◌}, lemmas.Grind.get_or_default_zero}

-- the row is counted at its input's place
pub invariant_of-self-2 : Rattle.c104_plan.proofs.row_list.RowList.push.Goals.invariant_of-self-2
invariant_of-self-2 c =
    let counts : List ℕ = c.self.inside.counts.items in
    let place : ℕ = input_place c.args.row.port in
    let next = counted_next counts c.self.inside.list.items c.args.row c.self.invariant c.requires.input in
    let inside : c.place_of-place.result < length counts = subst (λ n. c.place_of-place.result < n) (sym c.self.invariant.0) c.place_of-place.ensures.inside in
    let count : c.index_mut.result.now ≡ get_or counts place 0 =
    c.index_mut.ensures.value ∙ get_or_default_zero counts c.place_of-place.result c.index_mut.result.now inside ∙ ap (λ k. get_or counts k 0) c.place_of-place.ensures.place in
    subst (λ k. AreCounted (set counts k (c.index_mut.result.now + 1)) c.push.new.self.items) (sym c.place_of-place.ensures.place)
    (subst (λ n. AreCounted (set counts place (n + 1)) c.push.new.self.items) (sym count)
    (subst (AreCounted (set counts place (get_or counts place 0 + 1))) (sym c.in_ok-push.ensures.items) next))
