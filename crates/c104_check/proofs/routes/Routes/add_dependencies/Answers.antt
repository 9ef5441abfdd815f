use Rattle.c104_check.{proofs.DependencyLemmas.{below_all, below_more, below_next, extended_more}, specs.Dependencies.IsExtended}
use Rattle.{c104_check.specs.{Routes.header_count, Trails.routes_in}, std.proofs.Common.{arith, subst, ◌+◌, ◌≡◌}}
use Rattle.c104_check.proofs.routes.Routes.add_dependencies.Goals as goal

pub add_by_header-requires-clause-low : goal.add_by_header-requires-clause-low
add_by_header-requires-clause-low c = below_more c.loop-header.header c.loop-header.table c.loop-header.invariant.kept.below

pub loop-header-preserved : goal.loop-header-preserved
loop-header-preserved c = record {
  kept = extended_more (routes_in c.args.self.now) c.loop-header.header (c.loop-header.header + 1) c.args.table.now c.loop-header.table c.add_by_header.new.table c.loop-header.invariant.kept c.in_ok-add_by_header.ensures.kept;
  listed = below_next (routes_in c.args.self.now) (c.loop-header.header + 1) c.loop-header.header c.loop-header.table c.add_by_header.new.table c.in_ok-add_by_header.ensures.kept c.loop-header.invariant.listed c.in_ok-add_by_header.ensures.listed;
}

pub returns-clause-kept : goal.returns-clause-kept
returns-clause-kept c =
    let routes = routes_in c.args.self.now in
    let over = c.loop-header-test.false in
    let within = c.loop-header.auto.header-end in
    let end = c.header_count-header-end.ensures in
    let all : c.loop-header.header ≡ header_count routes = omega (arith, over, within, end) in
    subst (λ n. IsExtended routes n c.args.table.now c.loop-header.table) all c.loop-header.invariant.kept

pub returns-clause-listed : goal.returns-clause-listed
returns-clause-listed c =
    let over = c.loop-header-test.false in
    let end = c.header_count-header-end.ensures in
    below_all (routes_in c.args.self.now) (header_count (routes_in c.args.self.now)) c.loop-header.header c.loop-header.table (omega (arith, over, end)) c.loop-header.invariant.listed
