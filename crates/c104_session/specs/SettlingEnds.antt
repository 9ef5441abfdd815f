-- Where rounds until a network stands still always end before there are as many as there may be.
--     AlwaysSettles net answer      under these premises an answer isn't `moving`
--     RoundsEnd net      so it is of each answer that tells what came of rounds
use Rattle.{c104_check.specs.{ChannelDependencies.IsNeverRandomized, Routes.routes_of}, c104_deadlock.specs.DeadlockFreedom.IsAcyclicNet}
use Rattle.{c104_plan.specs.PlanImage.Image, c104_run.specs.NetRecords.NetRecord, c104_script.specs.declared.answers.Answer.Answer}
use Rattle.{c104_script.specs.declared.answers.Settled.Settled, c104_session.specs.Settling.SettlesTo}
use Rattle.std.specs.Prelude.{Option, Some, ℕ, ◌≡◌}

-- in an accepted network that nobody changed, whose channels don't depend on one another in a cycle and in which no random
-- headers are put before packets, the answer isn't that the network moves after as many rounds as there may be
abbrev pub AlwaysSettles : NetRecord → Option Answer → Type 0
AlwaysSettles net answer =
    (image : Image) → IsAcyclicNet image net → IsNeverRandomized (routes_of net.network.plan image) →
    (n : ℕ) → answer ≡ Some (Answer.Settled (Settled.Moving n)) → ⊥

-- whatever the rounds come to
abbrev pub RoundsEnd : NetRecord → Type 0
RoundsEnd net = (answer : Option Answer) (after : NetRecord) → SettlesTo net answer after → AlwaysSettles net answer
