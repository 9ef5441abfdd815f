use Rattle.c104_check.specs.{ChannelDependencies.IsNeverRandomized, Checks.IsFirstLink, Routes.{IsRandomized, Routes}}
use Rattle.std.proofs.Common.{MatchOption, subst}

pub returns : Rattle.c104_check.proofs.links.first_randomized.Goals.returns
returns c = subst (λ (r : Routes). MatchOption c.first_randomized.result (IsNeverRandomized r) (IsFirstLink (IsRandomized r))) c.in_ok-routes.ensures.routes c.first_randomized.ensures
