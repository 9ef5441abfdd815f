use Rattle.c104_check.{proofs.DependencyLemmas.{by_none, dependencies_none, none_only, written}, specs.Dependencies.AreByBelow}
use Rattle.c104_check.specs.{Dependencies.{AreDependencies, AreListedBelow, Dependency}, Refusals.Start, Routes.header_count}
use Rattle.{c104_check.specs.{Starts.AreOwnStarts, Trails.routes_in}, std.proofs.Common.{List, Option, length, subst, sym, ◌*◌, ◌∙◌}}
use Rattle.c104_check.proofs.routes.Routes.dependencies.Goals as goal

pub add_dependencies-requires-clause-starts : goal.add_dependencies-requires-clause-starts
add_dependencies-requires-clause-starts c =
    let routes = routes_in c.args.self.now in
    subst (λ (xs : List Start). AreOwnStarts routes xs (length routes.ranges)) (sym c.as_slice.ensures.value) c.in_ok-starts.ensures

pub add_dependencies-requires-clause-empty : goal.add_dependencies-requires-clause-empty
add_dependencies-requires-clause-empty c =
    let none = c.in_ok-table.ensures.items_if_clones_equal (none_only _ (λ x is. is)) in
    subst (λ (xs : List (Option Dependency)). AreByBelow 0 xs) (sym (c.deref_mut.ensures.value ∙ none)) (by_none (c.switch_count.result * 32 * 32))

pub returns-clause-listed : goal.returns-clause-listed
returns-clause-listed c =
    let new = c.add_dependencies.new.table in
    let is = written c.in_ok-table.table.items new c.in_ok-table.table.len (sym (c.in_ok-add_dependencies.ensures.kept.room ∙ c.deref_mut.ensures.len)) in
    subst (λ (xs : List (Option Dependency)). AreListedBelow (routes_in c.args.self.now) xs (header_count (routes_in c.args.self.now))) (sym is) c.in_ok-add_dependencies.ensures.listed

pub returns-clause-dependencies : goal.returns-clause-dependencies
returns-clause-dependencies c =
    let new = c.add_dependencies.new.table in
    let is = written c.in_ok-table.table.items new c.in_ok-table.table.len (sym (c.in_ok-add_dependencies.ensures.kept.room ∙ c.deref_mut.ensures.len)) in
    let none = c.in_ok-table.ensures.items_if_clones_equal (none_only _ (λ x is. is)) in
    subst (λ (xs : List (Option Dependency)). AreDependencies (routes_in c.args.self.now) xs) (sym is)
    (c.in_ok-add_dependencies.ensures.kept.dependencies (subst (λ (xs : List (Option Dependency)). AreDependencies (routes_in c.args.self.now) xs) (sym (c.deref_mut.ensures.value ∙ none)) (dependencies_none (routes_in c.args.self.now) (c.switch_count.result * 32 * 32))))
