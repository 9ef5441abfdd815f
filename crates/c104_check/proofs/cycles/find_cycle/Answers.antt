use Rattle.c104_check.proofs.{AcyclicLemmas.{by_labels, never_both}, FirstCycleLemmas.one_cycle, TableRanks.{all_ranked, first_in}}
use Rattle.c104_check.proofs.TableRanks.{first_leading, stuck_in, table_ranking, table_ranks_within}
use Rattle.c104_check.specs.{ChannelDependencies.{AreRanksWithin, IsRanking, input_count}, Checks.IsFirstLink, Cycles.AreAllRanked}
use Rattle.c104_check.specs.{Cycles.ArePartialRanks, Dependencies.{AreDependencies, AreListedBelow, Dependency}, FirstCycles.LeadsToCycle}
use Rattle.c104_check.specs.{Ranks.{rank_at, rank_in}, Routes.{IsAccepted, Routes, SwitchPort, header_count, routes_of}, Trails.IsNetwork}
use Rattle.{c104_check.specs.Trails.routes_in, std.proofs.Common.{List, Option, ap, length, subst, sym, ℕ, ◌*◌, ◌<◌, ◌∙◌, ◌≡◌}}
use Rattle.c104_check.proofs.cycles.find_cycle.Goals as goal

pub follow-requires-clause-dependencies : goal.follow-requires-clause-dependencies
follow-requires-clause-dependencies c =
    subst (λ (xs : List (Option Dependency)). AreDependencies (routes_in c.in_ok-routes.routes) xs) (sym c.as_slice-in-Some.ensures.value) c.in_ok-table.ensures.dependencies

pub follow-requires-clause-ranked : goal.follow-requires-clause-ranked
follow-requires-clause-ranked c =
    let plain = routes_of c.args.plan.now c.args.image.now in
    let table = c.in_ok-table.table.items in
    let ranks = c.in_ok-ranks.ranks.items in
    let is = c.in_ok-routes.ensures.routes in
    let routes = routes_in c.in_ok-routes.routes in
    let net = subst IsNetwork (sym is) c.in_ok-routes.ensures.network in
    let accepted = subst IsAccepted (sym is) c.requires.accepted in
    let part = subst (λ (xs : List (Option Dependency)). ArePartialRanks xs ranks) c.as_slice.ensures.value c.in_ok-ranks.ensures.part in
    let size : length ranks ≡ length routes.settings * 32 = c.in_ok-ranks.ensures.room ∙ ap (λ n. n * 32) c.switch_count-places.ensures.count in
    let stuck = stuck_in table ranks _ c.as_slice.result.now c.as_slice.ensures.value c.in_ok-ranks.ensures.room c.in_ok-ranks.ensures.stuck in
    let all = all_ranked routes table net accepted c.in_ok-table.ensures.dependencies c.in_ok-table.ensures.listed ranks part size stuck in
    subst (λ (xs : List (Option Dependency)). AreAllRanked routes xs c.as_slice-in-Some-2.result.now) (sym c.as_slice-in-Some.ensures.value)
    (subst (λ (xs : List ℕ). AreAllRanked routes table xs) (sym c.as_slice-in-Some-2.ensures.value) all)

pub follow-requires-clause-first : goal.follow-requires-clause-first
follow-requires-clause-first c =
    let table = c.in_ok-table.table.items in
    let ranks = c.in_ok-ranks.ranks.items in
    let is = c.in_ok-routes.ensures.routes in
    let routes = routes_in c.in_ok-routes.routes in
    let net = subst IsNetwork (sym is) c.in_ok-routes.ensures.network in
    let accepted = subst IsAccepted (sym is) c.requires.accepted in
    let part = subst (λ (xs : List (Option Dependency)). ArePartialRanks xs ranks) c.as_slice.ensures.value c.in_ok-ranks.ensures.part in
    let size : length ranks ≡ length routes.settings * 32 = c.in_ok-ranks.ensures.room ∙ ap (λ n. n * 32) c.switch_count-places.ensures.count in
    let stuck = stuck_in table ranks _ c.as_slice.result.now c.as_slice.ensures.value c.in_ok-ranks.ensures.room c.in_ok-ranks.ensures.stuck in
    let first = first_in ranks c.as_slice-2.result.now c.in-Some.place c.as_slice-2.ensures.value c.in-Some.ensures in
    subst (λ (p : SwitchPort). IsFirstLink (LeadsToCycle routes) p) (sym c.at-start.ensures)
    (first_leading routes table net accepted c.in_ok-table.ensures.dependencies c.in_ok-table.ensures.listed ranks part size stuck c.in-Some.place first.0 first.1 first.2)

pub returns-in-None-clause-found : goal.returns-in-None-clause-found
returns-in-None-clause-found c =
    let routes = routes_of c.args.plan.now c.args.image.now in
    let table = c.in_ok-table.table.items in
    let ranks = c.in_ok-ranks.ranks.items in
    let is = c.in_ok-routes.ensures.routes in
    let dependencies = subst (λ (r : Routes). AreDependencies r table) is c.in_ok-table.ensures.dependencies in
    let listed = subst (λ (r : Routes). AreListedBelow r table (header_count r)) is c.in_ok-table.ensures.listed in
    let part = subst (λ (xs : List (Option Dependency)). ArePartialRanks xs ranks) c.as_slice.ensures.value c.in_ok-ranks.ensures.part in
    let size : length ranks ≡ length routes.settings * 32 = c.in_ok-ranks.ensures.room ∙ ap (λ n. n * 32) (c.switch_count-places.ensures.count ∙ ap (λ (r : Routes). length r.settings) is) in
    let all = subst (λ (xs : List ℕ). (k : ℕ) → k < length xs → 0 < rank_at xs k) c.as_slice-2.ensures.value c.in-None.ensures in
    subst (λ (xs : List ℕ). IsRanking routes (rank_in xs) × AreRanksWithin (input_count routes) (rank_in xs)) (sym c.new-in-None.ensures)
    (table_ranking routes table ranks c.in_ok-routes.ensures.network c.requires.accepted dependencies listed part size all, table_ranks_within routes table ranks part size)

pub returns-in-None-clause-never_both : goal.returns-in-None-clause-never_both
returns-in-None-clause-never_both c = never_both (routes_of c.args.plan.now c.args.image.now)

pub returns-clause-never_both : goal.returns-clause-never_both
returns-clause-never_both c = never_both (routes_of c.args.plan.now c.args.image.now)

pub returns-in-None-clause-one : goal.returns-in-None-clause-one
returns-in-None-clause-one c = one_cycle (routes_of c.args.plan.now c.args.image.now)

pub returns-clause-one : goal.returns-clause-one
returns-clause-one c = one_cycle (routes_of c.args.plan.now c.args.image.now)

pub returns-in-None-clause-plain : goal.returns-in-None-clause-plain
returns-in-None-clause-plain c = by_labels (routes_of c.args.plan.now c.args.image.now)

pub returns-clause-plain : goal.returns-clause-plain
returns-clause-plain c = by_labels (routes_of c.args.plan.now c.args.image.now)
