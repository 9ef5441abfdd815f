use Rattle.{c104_check.specs.{Refusals.Start, Starts.AreOwnStarts, Trails.routes_in}, std.proofs.Common.{List, length, subst, sym}}
use Rattle.c104_check.proofs.routes.Routes.header_ways.Goals as goal

pub reached_as_own-requires : goal.reached_as_own-requires
reached_as_own-requires c =
    let routes = routes_in c.args.self.now in
    subst (λ (xs : List Start). AreOwnStarts routes xs (length routes.ranges)) (sym c.as_slice.ensures.value) c.in_ok-starts.ensures

pub returns : goal.returns
returns c = record {
  network = c.requires;
  begin = c.in_ok-starts.ensures;
  as_own = c.in_ok-own.ensures.reached;
  own_inside = c.in_ok-own.ensures.inside;
  as_random = c.in_ok-random.ensures.reached;
  random_inside = c.in_ok-random.ensures.inside;
}
