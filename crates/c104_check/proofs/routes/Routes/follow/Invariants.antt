use Rattle.c104_check.{proofs.CycleCuts.{IsChain, inputs_of}, specs.{FirstCycles.IsWay, Ranks.rank_in, Trails.{IsInput, routes_in}}}
use Rattle.{c104_check.specs.Walks.is_port, std.{proofs.Common.{length, ◌*◌, ◌+◌, ◌-◌, ◌≡◌}, specs.List.{AllByRecursion, IsDistinct}}}
use Rattle.c104_check.proofs.routes.Routes.follow.Given as goal

-- the inputs differ, so there are no more of them than inputs
abbrev pub decreases-loop-first : goal.decreases-loop-first
decreases-loop-first l = 32 * length (routes_in l.self).settings + 1 - length l.chain.items

-- each of the inputs so far waits for the next, and the last for this one, which has no rank
abbrev pub invariant-loop-first : goal.invariant-loop-first
invariant-loop-first l = record {
  chain : IsChain (routes_in l.self) l.chain.items l.at;
  way : IsWay (routes_in l.self) l.fn.start l.chain.items l.at;
  inside : AllByRecursion (IsInput (length (routes_in l.self).settings)) (inputs_of l.chain.items);
  once : IsDistinct is_port (inputs_of l.chain.items);
  here : IsInput (length (routes_in l.self).settings) l.at;
  rankless : rank_in l.ranks l.at ≡ 0;
}
