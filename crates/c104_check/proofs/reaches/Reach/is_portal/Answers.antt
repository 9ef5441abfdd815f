use Rattle.c104_check.{proofs.PartLemmas.{none_discarded, portal_told}, specs.{ChannelDependencies.IsNeverRandomized, Parts.IsDiscardedAt}}
use Rattle.{c104_check.specs.{Reach.{NetworkHeader, routes_for}, Routes.SwitchPort, Trails.{IsInput, routes_in}}, std.proofs.Common.IsTrue}
use Rattle.std.{proofs.Common.{List, false, length, subst, sym, ◌↔◌, ◌≡◌}, specs.List.AllByRecursion}
use Rattle.c104_check.proofs.reaches.Reach.is_portal.Goals as goal

pub is_discarded_at-requires : goal.is_discarded_at-requires
is_discarded_at-requires c = subst (λ (xs : List SwitchPort). AllByRecursion (IsInput (length (routes_in c.self.inside.routes).settings)) xs) (sym c.as_slice.ensures.value) c.self.invariant.random_inside

pub returns-clause-portal : goal.returns-clause-portal
returns-clause-portal c =
    subst (λ (x : NetworkHeader). IsTrue c.is_discarded_at.result ↔ IsDiscardedAt (routes_for x) x.header c.args.input) c.self.view_is
    (portal_told (routes_in c.self.inside.routes) c.self.inside.header c.self.inside.ways.random.items c.as_slice.result.now c.args.input c.is_discarded_at.result c.as_slice.ensures.value c.self.invariant.as_random c.is_discarded_at.ensures)

pub returns-clause-plain : goal.returns-clause-plain
returns-clause-plain c =
    subst (λ (x : NetworkHeader). IsNeverRandomized (routes_for x) → c.is_discarded_at.result ≡ false) c.self.view_is
    (none_discarded (routes_in c.self.inside.routes) c.self.inside.header c.args.input c.is_discarded_at.result
    (portal_told (routes_in c.self.inside.routes) c.self.inside.header c.self.inside.ways.random.items c.as_slice.result.now c.args.input c.is_discarded_at.result c.as_slice.ensures.value c.self.invariant.as_random c.is_discarded_at.ensures))
