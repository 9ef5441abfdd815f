-- What rounds come to in a network that has no deadlock, by each of the two numbers that tell how many are enough.
use Rattle.c104_check.specs.{ChannelDependencies.{IsNeverRandomized, IsRanking}, Routes.routes_of, declared.ports.SwitchPort.SwitchPort}
use Rattle.c104_deadlock.specs.{DeadlockFreedom.{IsAcyclicNet, IsAllDelivered}, HeaderWork.{work, work_bound}}
use Rattle.{c104_event.specs.declared.faults.EventFault.EventFault, c104_plan.specs.PlanImage.Image, c104_run.specs.NetRecords.NetRecord}
use Rattle.std.specs.Prelude.{IfOk, Result, ℕ, ◌<◌}

-- by the bound of work
abbrev pub DeliversWithin : NetRecord → ℕ → Result (Unit {0}) EventFault → NetRecord → Type 0
DeliversWithin old n result new = (image : Image) → IsAcyclicNet image old → IsNeverRandomized (routes_of old.network.plan image) → work_bound old.network.plan old.network.nodes < n → IfOk result (λ u. IsAllDelivered (routes_of old.network.plan image) new)

-- by work, whatever the ranks
abbrev pub DeliversByRanks : NetRecord → ℕ → Result (Unit {0}) EventFault → NetRecord → Type 0
DeliversByRanks old n result new = (image : Image) → IsAcyclicNet image old → IsNeverRandomized (routes_of old.network.plan image) → (rank : SwitchPort → ℕ) → IsRanking (routes_of old.network.plan image) rank → work old.network.plan rank old.network.nodes < n → IfOk result (λ u. IsAllDelivered (routes_of old.network.plan image) new)
