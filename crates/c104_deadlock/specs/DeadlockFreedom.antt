-- What is so of a network that is accepted, that nobody changed, and whose channels don't depend on one another in a
-- cycle: it has no deadlock.
--     IsAcyclicNet image net      such a network, with its record
--     NothingDone words net      no event of a round is done
--     IsFreeOfDeadlock net      what follows
--     EndsWithoutDeadlock run      the same of a finished run
use Rattle.c104_check.specs.{ChannelDependencies.{IsAcyclic, IsNeverRandomized, IsRanking}, Routes.{IsAccepted, Routes, routes_of}}
use Rattle.{c104_check.specs.declared.ports.SwitchPort.SwitchPort, c104_deadlock.specs.BlockedInputs.{IsAcceptedNet, IsBlocked}}
use Rattle.c104_deadlock.specs.{HeaderWork.{random_bound, random_work, work, work_bound}, Work.{most_weight, room_held, tokens_held}}
use Rattle.{c104_event.specs.declared.{events.Event.Event, faults.EventFault.EventFault}, c104_net.specs.Deliveries.Promise}
use Rattle.{c104_net.specs.{RoundEvents.IsOfRound, Unchanged.{AreStartsOf, IsUnchanged}}, c104_node.specs.MappedNodes.map_node}
use Rattle.c104_node.specs.{Nodes.Node, Starts.{IsStartedStart, start_node}, Traced.traced_kind, Traces.is_trace_full}
use Rattle.{c104_node.specs.declared.{acts.Entry.Entry, stamps.Stamp.Stamp, traced.Traced.Traced}, c104_plan.specs.PlanImage.{Fits, Image}}
use Rattle.c104_run.specs.{FairRounds.turns_of, Finished.network_finish, FinishedRecords.FinishedRecord, HandedWords.round_with}
use Rattle.c104_run.specs.{LinkOrders.IsOrder, NetRecords.{NetRecord, is_done}, Network.network_of, QuietNets.IsQuiet}
use Rattle.c104_run.specs.{RecordedRuns.{RecordsFairly, RecordsHanded, record_apply}, Runs.{IsDoneRun, IsRunRecord}}
use Rattle.c104_run.specs.{Standstill.{IsDeadlocked, StandsStill}, declared.{turns.SwitchTurns.SwitchTurns, words.Words.Words}}
use Rattle.{c104_switch.specs.Actions.Reply, c104_token.specs.{Kinds.plain_kind, declared.tokens.Token.Token}}
use Rattle.std.specs.Prelude.{All, Err, List, Ok, Some, false, map, slice_get, true, ℕ, ◌*◌, ◌+◌, ◌<◌, ◌≡◌, ◌≤◌, ◌⊎◌}

-- An accepted network that nobody changed, and whose channels don't depend on one another in a cycle.
pub record IsAcyclicNet (image : Image) (net : NetRecord) : Type 0 where
  pub fits : Fits image net.network.plan
  pub acyclic : IsAcyclic (routes_of net.network.plan image)
  pub kept : IsAcceptedNet image net

-- an event isn't done: it is answered with NotReady, or refused
abbrev pub IsUndone : NetRecord → Event → Type 0
IsUndone net e = is_done (record_apply net e).0 ≡ false

-- no event of a round whose inputs are handed words is done
abbrev pub NothingDone : Words → NetRecord → Type 0
NothingDone words net = All (IsUndone net) (round_with words net.network.plan)

-- a terminal refuses a token, since it keeps all that arrive and has no room for more
abbrev pub HasFullInbox : NetRecord → Type 0
HasFullInbox net = (t : ℕ) × ((record_apply net (Event.Drain t)).0 ≡ Err EventFault.InboxFull)

-- the trace of some node may have no further entry
abbrev pub HasFullTrace : NetRecord → Type 0
HasFullTrace net = (k : ℕ) × (trace : List Entry) × (slice_get net.traces k ≡ Some trace) × (is_trace_full trace ≡ true)

-- nothing stands anywhere, and each packet that was sent with a whole header that has an owner was received by it: the
-- run was one of tokens that tell where they came from, and its end keeps the promise
pub record IsAllDelivered (routes : Routes) (net : NetRecord) : Type 0 where
  pub quiet : IsQuiet net.network
  pub events : List (Event × Reply)
  pub traced : List (Node Traced)
  pub run : IsDoneRun traced_kind (network_of net.network.plan (map start_node net.starts)) events (network_of net.network.plan traced)
  pub plain : map (map_node (λ (x : Traced). x.token)) traced ≡ net.network.nodes
  pub promise : Promise routes (network_of net.network.plan traced)

-- after n rounds in which no event was refused, whatever words their inputs are handed, all is delivered
abbrev pub RoundsDeliver : Routes → NetRecord → ℕ → Type 0
RoundsDeliver routes net n = (words : Words) (after : NetRecord) → RecordsHanded words net n (Ok tt) after → IsAllDelivered routes after

-- turns that are orders: of each switch each of its inputs and outputs has a place among them
abbrev pub AreOrders : List SwitchTurns → Type 0
AreOrders turns = (s : ℕ) → IsOrder (turns_of turns s).inputs × IsOrder (turns_of turns s).outputs

-- the same after n fair rounds, whatever turns they begin with
abbrev pub FairDeliver : Routes → NetRecord → ℕ → Type 0
FairDeliver routes net n =
    (words : Words) (turns : List SwitchTurns) (after : NetRecord) (left : List SwitchTurns) → AreOrders turns →
    RecordsFairly words net turns n (Ok tt) after left → IsAllDelivered routes after

-- such a network has no deadlock
pub record HasNoDeadlock (image : Image) (net : NetRecord) : Type 0 where
  -- where no event of a round is done, the network is quiet, or waits for its user: an inbox or a trace is full
  pub no_deadlock : (words : Words) → NothingDone words net → IsQuiet net.network ⊎ (HasFullInbox net ⊎ HasFullTrace net)
  -- where each is answered with NotReady, it is quiet
  pub never : IsDeadlocked plain_kind net.network → ⊥
  pub stands_quiet : StandsStill plain_kind net.network → IsQuiet net.network
  -- each event of a kind that rounds have, where it is done, leaves less work: so no more of them can be done than there is
  -- work, in whatever rounds or order they come
  pub lessens : (rank : SwitchPort → ℕ) → IsRanking (routes_of net.network.plan image) rank → (e : Event) → IsOfRound e →
      is_done (record_apply net e).0 ≡ true →
      random_work net.network.plan (routes_of net.network.plan image) rank (record_apply net e).1.network.nodes
      < random_work net.network.plan (routes_of net.network.plan image) rank net.network.nodes
  -- more rounds than work, by any ranks that fall along the dependencies, deliver all
  pub rounds_deliver : (rank : SwitchPort → ℕ) → IsRanking (routes_of net.network.plan image) rank → (n : ℕ) →
      random_work net.network.plan (routes_of net.network.plan image) rank net.network.nodes < n →
      RoundsDeliver (routes_of net.network.plan image) net n
  -- and so do more rounds than the bound of work
  pub rounds_suffice : (n : ℕ) → random_bound net.network.plan (routes_of net.network.plan image) net.network.nodes < n →
      RoundsDeliver (routes_of net.network.plan image) net n
  -- and so do as many fair rounds
  pub fair_deliver : (rank : SwitchPort → ℕ) → IsRanking (routes_of net.network.plan image) rank → (n : ℕ) →
      random_work net.network.plan (routes_of net.network.plan image) rank net.network.nodes < n →
      FairDeliver (routes_of net.network.plan image) net n
  pub fair_suffice : (n : ℕ) → random_bound net.network.plan (routes_of net.network.plan image) net.network.nodes < n →
      FairDeliver (routes_of net.network.plan image) net n
  -- where no link puts random headers before packets, these are the work and the bound by tokens that there are
  pub plain_work : IsNeverRandomized (routes_of net.network.plan image) → (rank : SwitchPort → ℕ) →
      random_work net.network.plan (routes_of net.network.plan image) rank net.network.nodes
      ≡ work net.network.plan rank net.network.nodes
  pub plain_bound : IsNeverRandomized (routes_of net.network.plan image) →
      random_bound net.network.plan (routes_of net.network.plan image) net.network.nodes
      ≡ work_bound net.network.plan net.network.nodes
  -- which is at most the highest weight for each token, and the room that buffers could still grant
  pub bounded : work_bound net.network.plan net.network.nodes
      ≤ tokens_held net.network.nodes * most_weight net.network.plan + room_held net.network.nodes

-- what is so of every network with its record
abbrev pub IsFreeOfDeadlock : NetRecord → Type 0
IsFreeOfDeadlock net = (image : Image) → IsAcyclicNet image net → HasNoDeadlock image net

-- the same of a run that is finished: of the events that its traces tell, and the nodes at its end
pub record EndsWithoutDeadlock (run : FinishedRecord) : Type 0 where
  pub stamps : ℕ → Stamp
  pub events : List (Event × Reply)
  pub nodes : List (Node Token)
  pub told : IsRunRecord plain_kind run.finished.plan stamps (map start_node run.starts) nodes run.traces run.count events
  pub ended : run.finished ≡ network_finish (network_of run.finished.plan nodes)
  pub stands_quiet : (image : Image) → IsAccepted (routes_of run.finished.plan image) →
      IsAcyclic (routes_of run.finished.plan image) → AreStartsOf run.finished.plan image run.starts →
      All IsStartedStart run.starts → IsUnchanged (routes_of run.finished.plan image) events →
      StandsStill plain_kind (network_of run.finished.plan nodes) → IsQuiet (network_of run.finished.plan nodes)
  -- with cycles too: which inputs hold tokens, and what blocks the packets there
  pub stands_blocked : (image : Image) → IsAccepted (routes_of run.finished.plan image) → AreStartsOf run.finished.plan image run.starts →
      All IsStartedStart run.starts → IsUnchanged (routes_of run.finished.plan image) events →
      StandsStill plain_kind (network_of run.finished.plan nodes) →
      IsBlocked (routes_of run.finished.plan image) (network_of run.finished.plan nodes)
