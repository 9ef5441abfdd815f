use Rattle.c104_check.proofs.{LinkLemmas.{first_link, no_link, none_next}, RangeLemmas.not_true, TableLemmas.randomized_input}
use Rattle.{c104_check.specs.{Checks.IsFirstLink, Routes.IsRandomized, Trails.routes_in}, std.proofs.Common.{arith, length, subst, sym}}
use Rattle.c104_check.proofs.routes.Routes.first_randomized.Goals as goal

pub returns-then-is_randomized : goal.returns-then-is_randomized
returns-then-is_randomized c = subst (IsFirstLink (IsRandomized (routes_in c.args.self.now))) (sym c.at-at.ensures) (first_link (IsRandomized (routes_in c.args.self.now)) (length (routes_in c.args.self.now).settings) c.loop-place.place (randomized_input (routes_in c.args.self.now) c.switch_count-place-end.ensures.network) c.loop-place.invariant (subst (IsRandomized (routes_in c.args.self.now)) c.at-at.ensures (c.is_randomized.ensures.0 c.if-is_randomized.true)))

pub loop-place-preserved : goal.loop-place-preserved
loop-place-preserved c = none_next (IsRandomized (routes_in c.args.self.now)) (length (routes_in c.args.self.now).settings) c.loop-place.place (randomized_input (routes_in c.args.self.now) c.switch_count-place-end.ensures.network) c.loop-place.invariant (λ is. not_true ((IsRandomized (routes_in c.args.self.now)) c.at-at.result) c.is_randomized.result c.is_randomized.ensures.1 c.if-is_randomized.false (subst (IsRandomized (routes_in c.args.self.now)) (sym c.at-at.ensures) is))

pub returns : goal.returns
returns c = no_link (IsRandomized (routes_in c.args.self.now)) (length (routes_in c.args.self.now).settings) c.loop-place.place (randomized_input (routes_in c.args.self.now) c.switch_count-place-end.ensures.network) (let count = c.switch_count-place-end.ensures.count in omega (arith, count, c.loop-place-test.false)) c.loop-place.invariant
