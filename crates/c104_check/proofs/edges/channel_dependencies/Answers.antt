use Rattle.c104_check.{proofs.{AcyclicLemmas.by_labels, EdgeLemmas.all_edges}, specs.Dependencies.{AreDependencies, AreListedBelow}}
use Rattle.c104_check.specs.{Dependencies.Dependency, Edges.{AreAllEdges, AreEdgesBefore, DependencyEdge}, Routes.{Routes, header_count}}
use Rattle.{c104_check.specs.Routes.routes_of, std.proofs.Common.{List, Option, ap, length, subst, sym, ◌*◌, ◌∙◌, ◌≡◌}}
use Rattle.c104_check.proofs.edges.channel_dependencies.Goals as goal

pub returns-clause-edges : goal.returns-clause-edges
returns-clause-edges c =
    let routes = routes_of c.args.plan.now c.args.image.now in
    let table = c.in_ok-table.table.items in
    let is = c.in_ok-routes.ensures.routes in
    let dependencies = subst (λ (r : Routes). AreDependencies r table) is c.in_ok-table.ensures.dependencies in
    let listed = subst (λ (r : Routes). AreListedBelow r table (header_count r)) is c.in_ok-table.ensures.listed in
    let size : length table ≡ length routes.settings * 32 * 32 = c.in_ok-table.ensures.room ∙ ap (λ (r : Routes). length r.settings * 32 * 32) is in
    let edges = subst (λ (xs : List (Option Dependency)). AreEdgesBefore xs (length xs) c.in_ok-edges.edges.items) c.as_slice.ensures.value c.in_ok-edges.ensures in
    subst (λ (xs : List DependencyEdge). AreAllEdges routes xs) (sym c.new-2.ensures)
    (all_edges routes table c.in_ok-edges.edges.items c.in_ok-routes.ensures.network c.requires.accepted dependencies listed size edges)

pub returns-clause-plain : goal.returns-clause-plain
returns-clause-plain c = by_labels (routes_of c.args.plan.now c.args.image.now)
