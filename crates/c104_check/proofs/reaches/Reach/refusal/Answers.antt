use Rattle.c104_check.specs.{Parts.{IsNeverRefused, TellsFirst}, Reach.{NetworkHeader, routes_for}, Refusals.Start, Starts.AreOwnStarts}
use Rattle.{c104_check.specs.Trails.routes_in, std.proofs.Common.{IfOk, List, MatchOption, length, subst, sym}}
use Rattle.c104_check.proofs.reaches.Reach.refusal.Goals as goal

pub first_refusal-requires-clause-starts : goal.first_refusal-requires-clause-starts
first_refusal-requires-clause-starts c =
    let routes = routes_in c.self.inside.routes in
    subst (λ (xs : List Start). AreOwnStarts routes xs (length routes.ranges)) (sym c.as_slice.ensures.value) c.self.invariant.begin

pub returns : goal.returns
returns c = subst (λ (x : NetworkHeader). IfOk c.first_refusal.result (λ found. MatchOption found (IsNeverRefused (routes_for x) x.header) (TellsFirst (routes_for x) x.header))) c.self.view_is c.first_refusal.ensures
