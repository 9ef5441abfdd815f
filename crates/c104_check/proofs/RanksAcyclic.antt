-- Ranks of the inputs of a network leave it without a cycle.
use Rattle.c104_check.specs.{ChannelDependencies.IsAcyclic, Cycles.AreRanksOrCycle, Ranks.rank_in, Routes.Routes}
use Rattle.{c104_check.specs.declared.cycles.{Ranks.Ranks, RanksOrCycle.RanksOrCycle}, std.proofs.Common.{subst, ◌≡◌}}

ranks_acyclic : (routes : Routes) (ranks : Ranks) → AreRanksOrCycle routes (RanksOrCycle.Ranks ranks) → IsAcyclic routes
ranks_acyclic routes ranks are = (rank_in ranks.by_place, are.0, are.1)

pub ranked_acyclic : (routes : Routes) (x : RanksOrCycle) (ranks : Ranks) → AreRanksOrCycle routes x → x ≡ RanksOrCycle.Ranks ranks → IsAcyclic routes
ranked_acyclic routes x ranks are is = ranks_acyclic routes ranks (subst (λ y. AreRanksOrCycle routes y) is are)
