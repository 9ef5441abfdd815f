-- In a network that nobody changed all is delivered after enough rounds, by the theorem.
use Rattle.c104_check.specs.{ChannelDependencies.{AreRanksWithin, IsAcyclic, IsNeverRandomized, IsRanking, input_count}, Routes.IsAccepted}
use Rattle.{c104_check.specs.{Routes.routes_of, declared.ports.SwitchPort.SwitchPort}, c104_deadlock.proofs.WorkBounds.told_below}
use Rattle.c104_deadlock.specs.{DeadlockFreedom.{IsAcyclicNet, IsAllDelivered, IsFreeOfDeadlock}, HeaderWork.{work, work_bound}}
use Rattle.{c104_deadlock.specs.Work.told_work, c104_event.specs.declared.faults.EventFault.EventFault}
use Rattle.{c104_net.specs.Unchanged.AreStartsOf, c104_node.specs.{Starts.IsStartedStart, Traces.seatless}, c104_plan.specs.PlanImage.Fits}
use Rattle.{c104_plan.specs.{PlanImage.Image, Plans.Plan}, c104_run.specs.{NetRecords.NetRecord, QuietNets.IsQuiet}}
use Rattle.c104_run.specs.{RecordedRuns.RecordsHanded, Standstill.StandsStill, declared.words.Words.Words}
use Rattle.c104_tests_net.{proofs.BlockedNets.accepted_net, specs.{CalmNets.IsCalm, DeliveredNets.{DeliversByRanks, DeliversWithin}}}
use Rattle.{c104_token.specs.Kinds.plain_kind, std.proofs.Common.{All, Err, IfOk, Ok, Result, arith, subst, sym, ℕ, ◌<◌}}

-- what such a network keeps is what the theorem asks for
pub acyclic_net : (plan : Plan) (image : Image) (net : NetRecord) → IsCalm plan image net → Fits image plan → IsAccepted (routes_of plan image) → IsAcyclic (routes_of plan image) → All IsStartedStart net.starts → IsAcyclicNet image net
acyclic_net plan image net calm fits accepted acyclic started =
    let back = sym calm.same_plan in
    record {
      fits = subst (Fits image) back fits;
      acyclic = subst (λ p. IsAcyclic (routes_of p image)) back acyclic;
      kept = accepted_net plan image net calm accepted started;
    }

-- where it stands still, it is quiet, also where random headers are put before packets
pub stood_quiet : (plan : Plan) (image : Image) (net : NetRecord) → IsCalm plan image net → Fits image plan → IsAccepted (routes_of plan image) → IsAcyclic (routes_of plan image) → All IsStartedStart net.starts → IsFreeOfDeadlock net → StandsStill plain_kind net.network → IsQuiet net.network
stood_quiet plan image net calm fits accepted acyclic started free still = (free image (acyclic_net plan image net calm fits accepted acyclic started)).stands_quiet still

-- what rounds deliver, whatever words their inputs are handed
pub delivers_within : (words : Words) (old new : NetRecord) (n : ℕ) (result : Result (Unit {0}) EventFault) → IsFreeOfDeadlock old → RecordsHanded words old n result new → DeliversWithin old n result new
delivers_within words old new n (Ok u) free ends = λ image is plain few. (free image is).rounds_suffice n (subst (λ k. k < n) (sym ((free image is).plain_bound plain)) few) words new ends
delivers_within words old new n (Err f) free ends = λ image is plain few. tt

pub delivers_by : (words : Words) (old new : NetRecord) (n : ℕ) (result : Result (Unit {0}) EventFault) → IsFreeOfDeadlock old → RecordsHanded words old n result new → DeliversByRanks old n result new
delivers_by words old new n (Ok u) free ends = λ image is plain rank falls few. (free image is).rounds_deliver rank falls n (subst (λ k. k < n) (sym ((free image is).plain_work plain rank)) few) words new ends
delivers_by words old new n (Err f) free ends = λ image is plain rank falls few. tt

module _ (plan : Plan) (image : Image) (old new : NetRecord) (n : ℕ) (result : Result (Unit {0}) EventFault) (calm : IsCalm plan image old) (fits : Fits image plan) (accepted : IsAccepted (routes_of plan image)) (never : IsNeverRandomized (routes_of plan image)) (started : All IsStartedStart old.starts) (small : n < 4294967296) where
  plain : IsNeverRandomized (routes_of old.network.plan image)
  plain = subst (λ p. IsNeverRandomized (routes_of p image)) (sym calm.same_plan) never

  pub settled_within : IsAcyclic (routes_of plan image) → DeliversWithin old n result new → told_work (work_bound old.network.plan old.network.nodes) < n → IfOk result (λ u. IsAllDelivered (routes_of plan image) new)
  settled_within acyclic delivers few = subst (λ p. IfOk result (λ u. IsAllDelivered (routes_of p image) new)) calm.same_plan
      (delivers image (acyclic_net plan image old calm fits accepted acyclic started) plain (told_below (work_bound old.network.plan old.network.nodes) n few (omega (arith, small))))

  pub settled_by : (rank : SwitchPort → ℕ) → IsRanking (routes_of plan image) rank → AreRanksWithin (input_count (routes_of plan image)) rank → DeliversByRanks old n result new → told_work (work old.network.plan rank old.network.nodes) < n → IfOk result (λ u. IsAllDelivered (routes_of plan image) new)
  settled_by rank falls within delivers few = subst (λ p. IfOk result (λ u. IsAllDelivered (routes_of p image) new)) calm.same_plan
      (delivers image (acyclic_net plan image old calm fits accepted (rank, falls, within) started) plain rank (subst (λ p. IsRanking (routes_of p image) rank) (sym calm.same_plan) falls) (told_below (work old.network.plan rank old.network.nodes) n few (omega (arith, small))))
