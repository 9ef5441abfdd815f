-- The nodes of an event that can happen are the network's.
use Rattle.{c104_node.specs.{Tagged.TaggedToken, declared.crossings.Joint.Joint}, c104_plan.specs.Plans.{IsPlan, Plan}}
use Rattle.c104_run.{proofs.BalanceWires.peer_back, specs.{AskedActs.AreEnds, NetParts.node_count, declared.asked.Asked.Asked}}
use Rattle.{c104_turns.proofs.LogRuns.port_inside, std.proofs.Common.{subst, sym, ℕ, ◌<◌}}

-- what crosses a wire crosses between two of them
pub both_inside : (plan : Plan) → IsPlan plan → (near far : ℕ) (joint : Joint) → AreEnds {A = TaggedToken} plan (Asked.Joint near far joint)
    → (near < node_count plan) × (far < node_count plan)
both_inside plan is_plan near far joint ends = (
  subst (λ k. k < node_count plan) (sym ends.0) (port_inside plan is_plan joint.near joint.far ends.3),
  subst (λ k. k < node_count plan) (sym ends.1)
      (port_inside plan is_plan joint.far joint.near (peer_back plan is_plan joint.near joint.far ends.3)),
)
