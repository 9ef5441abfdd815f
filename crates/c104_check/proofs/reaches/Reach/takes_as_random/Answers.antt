use Rattle.c104_check.{proofs.PartLemmas.{none_taken, random_taken}, specs.{ChannelDependencies.IsNeverRandomized, Parts.IsTakenAsRandom}}
use Rattle.{c104_check.specs.{Reach.{NetworkHeader, routes_for}, Routes.SwitchPort, Trails.{IsInput, routes_in}}, std.proofs.Common.IsTrue}
use Rattle.std.{proofs.Common.{List, false, length, subst, sym, ◌↔◌, ◌≡◌}, specs.List.AllByRecursion}
use Rattle.c104_check.proofs.reaches.Reach.takes_as_random.Goals as goal

pub takes_from-requires : goal.takes_from-requires
takes_from-requires c = subst (λ (xs : List SwitchPort). AllByRecursion (IsInput (length (routes_in c.self.inside.routes).settings)) xs) (sym c.as_slice.ensures.value) c.self.invariant.random_inside

pub returns-clause-taken : goal.returns-clause-taken
returns-clause-taken c =
    subst (λ (x : NetworkHeader). IsTrue c.takes_from.result ↔ IsTakenAsRandom (routes_for x) x.header c.args.link) c.self.view_is
    (random_taken (routes_in c.self.inside.routes) c.self.inside.header c.self.inside.ways.random.items c.as_slice.result.now c.args.link c.takes_from.result c.as_slice.ensures.value c.self.invariant.as_random c.takes_from.ensures)

pub returns-clause-plain : goal.returns-clause-plain
returns-clause-plain c =
    subst (λ (x : NetworkHeader). IsNeverRandomized (routes_for x) → c.takes_from.result ≡ false) c.self.view_is
    (none_taken (routes_in c.self.inside.routes) c.self.inside.header c.args.link c.takes_from.result
    (random_taken (routes_in c.self.inside.routes) c.self.inside.header c.self.inside.ways.random.items c.as_slice.result.now c.args.link c.takes_from.result c.as_slice.ensures.value c.self.invariant.as_random c.takes_from.ensures))
