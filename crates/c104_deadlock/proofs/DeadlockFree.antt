-- A network that is accepted, that nobody changed and whose channels don't depend on one another in a cycle has no
-- deadlock: from what the type of a network with its record keeps.
use Rattle.c104_check.specs.{ChannelDependencies.IsRanking, Routes.{Routes, routes_of}, declared.ports.SwitchPort.SwitchPort}
use Rattle.c104_deadlock.proofs.{AcyclicRuns.IsAcyclicRun, BeginsStarted.starts_are_started, FullWork.{plain_work, random_within}}
use Rattle.c104_deadlock.proofs.{RecordedRounds.{applied_plain, done_after, done_of, plain_run, starts_stay}, RoundsAlike.AreRounds}
use Rattle.c104_deadlock.proofs.{RoundsAlike.{fair_rounds, handed_rounds}, RoundsEnd.{rounds_deliver, run_plain, work_map}}
use Rattle.c104_deadlock.proofs.{StandingRuns.{run_steady, stands_blocked, stands_quiet, started_traced}, StartedRuns.run_started}
use Rattle.c104_deadlock.proofs.{UndoneRounds.undone_stands, WorkBounds.bound_by_tokens, WorkEvents.event_less, WorkRounds.falling}
use Rattle.c104_deadlock.specs.{BlockedInputs.BlocksAtCycles, DeadlockFreedom.{FairDeliver, HasFullInbox, HasFullTrace, HasNoDeadlock}}
use Rattle.c104_deadlock.specs.{DeadlockFreedom.{IsAcyclicNet, IsAllDelivered, NothingDone, RoundsDeliver}, HeaderWork.random_ahead}
use Rattle.{c104_deadlock.specs.{HeaderWork.{random_bound, random_work}, Work.highest_rank}, c104_event.specs.declared.events.Event.Event}
use Rattle.{c104_event.specs.declared.faults.EventFault.EventFault, c104_net.proofs.{PacketInvariant.IsLabelled, Promises.{each, starts}}}
use Rattle.c104_net.proofs.{RunOrigins.still_steady, RunSteps.header_positive, SentBytes.AreBytesSent, StartMaps.starts_are}
use Rattle.c104_net.{proofs.TracedRuns.{token_of, traced_from}, specs.{Deliveries.Promise, RoundEvents.IsOfRound}}
use Rattle.c104_node.specs.{MappedNodes.map_node, Quiet.IsQuietNode, Starts.start_node, Traced.traced_kind, declared.traced.Traced.Traced}
use Rattle.{c104_plan.specs.{PlanImage.Image, Plans.{IsPlan, Plan}}, c104_run.proofs.{FairRecords.fair_plain, NodeMaps.quiet_map}}
use Rattle.c104_run.{proofs.{RecordSteps.done_made, RoundRuns.Applied, StepMaps.apply_map}, specs.EventRuns.{EventsEnd, Outcome}}
use Rattle.c104_run.specs.{EventRuns.{StopsShort, run_events}, FairRounds.{InTurn, fair_events, in_turn}, HandedWords.rounds_with}
use Rattle.c104_run.specs.{NetRecords.{IsNetRecord, NetRecord, is_done}, Network.{Network, network_apply, network_of}, QuietNets.IsQuiet}
use Rattle.c104_run.specs.{RecordedRuns.record_apply, Runs.IsDoneRun, Standstill.StandsStill, TracedRuns.map_network}
use Rattle.{c104_run.specs.declared.words.Words.Words, c104_switch.specs.Actions.Reply, c104_token.specs.Kinds.plain_kind}
use Rattle.{c104_token.specs.declared.tokens.Token.Token, std.proofs.Common.{Err, List, Ok, Result, ap, arith, get_or, inl, inr, length}}
use Rattle.std.proofs.{Common.{map, refl, subst, sym, true, ℕ, ⊎_elim, ◌*◌, ◌++◌, ◌<◌, ◌∙◌, ◌≡◌, ◌≤◌, ◌⊎◌}, lemmas.List.Elements.All-map}

module _ (net : NetRecord) (is_plan : IsPlan net.network.plan) (kept : IsNetRecord net) (sent : AreBytesSent kept.told.0) (image : Image) (is : IsAcyclicNet image net) where
  abbrev plan : Plan
  plan = net.network.plan

  abbrev routes : Routes
  routes = routes_of net.network.plan image

  abbrev events : List (Event × Reply)
  events = kept.told.0

  acyclic_run : IsAcyclicRun plan image net.starts events net.network.nodes
  acyclic_run = record {
    accepted = is.kept.accepted;
    acyclic = is.acyclic;
    set = is.kept.set;
    started = starts_are_started Token plan net.starts is.kept.started;
    steady = kept.started;
    run = kept.told.1.run;
    unchanged = is.kept.unchanged events kept.told.1;
  }

  stands : StandsStill plain_kind net.network → IsQuiet net.network
  stands still = stands_quiet plan image net.starts events net.network.nodes is_plan acyclic_run sent still

  nothing_done : (words : Words) → NothingDone words net → IsQuiet net.network ⊎ (HasFullInbox net ⊎ HasFullTrace net)
  nothing_done words none = ⊎_elim (λ (still : StandsStill plain_kind net.network). inl (stands still)) (λ (full : HasFullInbox net ⊎ HasFullTrace net). inr full) (undone_stands net is_plan words none)

  -- the run so far over tokens that tell where they came from
  abbrev pub Ended : NetRecord → Type 0
  Ended after = (last : Network Traced) × (map_network token_of last ≡ after.network) × (more : List (Event × Reply)) × IsDoneRun traced_kind (network_of plan (map start_node net.starts)) more last × IsQuiet last × Promise routes last

  ended_so : (rank : SwitchPort → ℕ) → IsRanking routes rank → (n : ℕ) (es : List Event) → AreRounds plan n es → random_work plan routes rank net.network.nodes < n → (after : NetRecord) → ◌≡◌ {A = Outcome (Network Token)} (run_events (network_apply plain_kind) net.network es) (Ok tt, after.network) → Ended after
  ended_so rank falls n es rounds few after end =
      let found = traced_from plan net.starts net.network.nodes events kept.told.1.run in
      let mid : Network Traced = network_of plan found.0 in
      let balance = run_steady traced_kind (network_of plan (map start_node net.starts)) mid events is_plan found.1.run (still_steady Token Traced plan net.starts kept.started) in
      let started = run_started plain_kind routes (network_of plan (map start_node net.starts)) net.network events kept.told.1.run (is.kept.unchanged events kept.told.1) acyclic_run.started in
      let same : random_work plan routes rank found.0 ≡ random_work plan routes rank net.network.nodes = sym (work_map token_of plan routes rank found.0) ∙ ap (random_work plan routes rank) found.1.plain in
      let after_traced = run_events (network_apply traced_kind) mid es in
      let both : ◌≡◌ {A = Outcome (Network Token)} (after_traced.0, map_network token_of after_traced.1) (Ok tt, after.network) = sym (run_plain mid es) ∙ ap (λ ns. run_events (network_apply plain_kind) (network_of plan ns) es) found.1.plain ∙ end in
      let told : after_traced.0 ≡ Ok tt = ap (λ (z : Outcome (Network Token)). z.0) both in
      let whole : ◌≡◌ {A = Outcome (Network Traced)} after_traced (Ok tt, after_traced.1) = ap (λ o. (o, after_traced.1)) told in
      let delivered = rounds_deliver image (network_of plan (map start_node net.starts)) mid after_traced.1 events rank n es rounds is_plan is.kept.accepted falls (starts_are plan image net.starts is.kept.set) found.1.run (is.kept.unchanged events kept.told.1) sent balance
      (started_traced plan net.starts net.network.nodes events is_plan kept.told.1.run found.0 found.1.plain started) (subst (λ k. k < n) (sym same) few) whole in
      let more = done_of traced_kind es mid after_traced.1 whole in (
        after_traced.1,
        ap (λ (z : Outcome (Network Token)). z.1) both,
        events ++ more.0,
        done_after traced_kind (network_of plan (map start_node net.starts)) mid after_traced.1 events more.0 found.1.run more.1,
        delivered.0,
        delivered.1,
      )

  pub delivered_so : (after : NetRecord) → after.network.plan ≡ plan → after.starts ≡ net.starts → Ended after → IsAllDelivered routes after
  delivered_so after same_plan same_starts e =
      let last : Network Traced = e.0 in
      let plans : last.plan ≡ after.network.plan = ap (λ (n : Network Token). n.plan) e.1 in
      let whole : last ≡ network_of after.network.plan last.nodes = ap (λ p. network_of p last.nodes) plans in
      let plain : map (map_node token_of) last.nodes ≡ after.network.nodes = ap (λ (n : Network Token). n.nodes) e.1 in
      let start : network_of {A = Traced} plan (map start_node net.starts) ≡ network_of after.network.plan (map start_node after.starts) = ap (λ p. network_of p (map start_node net.starts)) (sym same_plan) ∙ ap (λ ss. network_of after.network.plan (map start_node ss)) (sym same_starts) in
      record {
        quiet = subst IsQuiet e.1 (All-map IsQuietNode (map_node token_of) last.nodes (λ k d inside. quiet_map token_of (get_or last.nodes k d) (e.4 k d inside)));
        events = e.2;
        traced = last.nodes;
        run = subst (λ n. IsDoneRun traced_kind n e.2 (network_of after.network.plan last.nodes)) start (subst (λ n. IsDoneRun traced_kind (network_of plan (map start_node net.starts)) e.2 n) whole e.3);
        plain = plain;
        promise = subst (Promise routes) whole e.5;
      }

  ends_so : (rank : SwitchPort → ℕ) → IsRanking routes rank → (n : ℕ) → random_work plan routes rank net.network.nodes < n → (es : List Event) → AreRounds plan n es → (after : NetRecord) → EventsEnd record_apply net es (Ok tt) after → IsAllDelivered routes after
  ends_so rank falls n few es rounds after ends =
      let stay = starts_stay net after es (Ok tt) ends in
      ⊎_elim
      (λ (due : ◌≡◌ {A = Outcome NetRecord} (Ok tt, after) (run_events record_apply net es)). delivered_so after stay.0 stay.1 (ended_so rank falls n es rounds few after (plain_run es net after (sym due))))
      (λ (short : StopsShort record_apply net es (Ok tt) after). let no = short.refused in absurd (cc))
      ends

  rounds_law : (rank : SwitchPort → ℕ) → IsRanking routes rank → (n : ℕ) → random_work plan routes rank net.network.nodes < n → RoundsDeliver routes net n
  rounds_law rank falls n few words after ends = ends_so rank falls n few (rounds_with words plan n) (handed_rounds plan n words) after ends

  fair_law : (rank : SwitchPort → ℕ) → IsRanking routes rank → (n : ℕ) → random_work plan routes rank net.network.nodes < n → FairDeliver routes net n
  fair_law rank falls n few words turns after left orders ends =
      let x : InTurn NetRecord = in_turn net turns in
      let es : List Event = fair_events record_apply words plan n x in
      ends_so rank falls n few es (fair_rounds plan is_plan record_apply n words x orders) after (fair_plain record_apply x (in_turn after left) es (Ok tt) ends)

  -- more rounds than the bound are more than the work by the ranks that there are
  within_bound : (n : ℕ) → random_bound plan routes net.network.nodes < n → random_work plan routes is.acyclic.0 net.network.nodes < n
  within_bound n few =
      let within : (p : SwitchPort) → is.acyclic.0 p ≤ 32 * length plan.switches = λ p. subst (λ m. is.acyclic.0 p ≤ 32 * m) is.fits.settings (is.acyclic.2 p) in
      let most = random_within plan routes is.acyclic.0 within net.network.nodes in
      omega (arith, most, few)

  -- an event of a round that is done leaves less work: over tokens that tell where they came from it is done too, and
  -- there leaves less
  lessens : (rank : SwitchPort → ℕ) → IsRanking routes rank → (e : Event) → IsOfRound e → is_done (record_apply net e).0 ≡ true → random_work plan routes rank (record_apply net e).1.network.nodes < random_work plan routes rank net.network.nodes
  lessens rank falls e of done = by_answer (record_apply net e).0 refl done
    where
      by_answer : (answer : Result Reply EventFault) → (record_apply net e).0 ≡ answer → is_done answer ≡ true → random_work plan routes rank (record_apply net e).1.network.nodes < random_work plan routes rank net.network.nodes
      by_answer (Err f) told ready = absurd (cc ready)
      by_answer (Ok x) told ready =
          let found = traced_from plan net.starts net.network.nodes events kept.told.1.run in
          let mid : Network Traced = network_of plan found.0 in
          let labelled : IsLabelled routes = record { accepted = is.kept.accepted; positive = header_positive plan image } in
          let k = each plan image is_plan labelled (map start_node net.starts) mid events found.1.run (is.kept.unchanged events kept.told.1) sent (starts plan image is_plan labelled (map start_node net.starts) (starts_are plan image net.starts is.kept.set)) in
          let after : Network Token = (record_apply net e).1.network in
          let next : Network Traced = (network_apply traced_kind mid e).1 in
          let due : ◌≡◌ {A = Applied (Network Token)} (Ok x, after) (network_apply plain_kind net.network e) = applied_plain net e x told in
          let both : ◌≡◌ {A = Applied (Network Token)} ((network_apply traced_kind mid e).0, map_network token_of next) (Ok x, after) =
          sym (apply_map token_of traced_kind plain_kind (λ x. refl) (λ j b. refl) (λ t n j x. refl) mid e) ∙ ap (λ ns. network_apply plain_kind (network_of plan ns) e) found.1.plain ∙ sym due in
          let answered : ◌≡◌ {A = Applied (Network Traced)} (Ok x, next) (network_apply traced_kind mid e) = ap (λ (o : Result Reply EventFault). (o, next)) (sym (ap (λ (z : Applied (Network Token)). z.0) both)) in
          let made = done_made traced_kind (network_of plan k.0) next x e (answered ∙ ap (λ n. network_apply traced_kind n e) (sym k.1)) ready in
          let less = event_less traced_kind plan is_plan rank (random_ahead routes rank) k.0 k.2.placed (falling plan image is_plan labelled rank falls k.0 k.2) e x next of made in
          let before : random_work plan routes rank k.0 ≡ random_work plan routes rank net.network.nodes =
          ap (λ (n : Network Traced). random_work plan routes rank n.nodes) k.1 ∙ sym (work_map token_of plan routes rank found.0) ∙ ap (random_work plan routes rank) found.1.plain in
          let later : random_work plan routes rank next.nodes ≡ random_work plan routes rank after.nodes =
          sym (work_map token_of plan routes rank next.nodes) ∙ ap (λ (z : Applied (Network Token)). random_work plan routes rank z.1.nodes) both in
          omega (arith, less, before, later)

  pub has_no_deadlock : HasNoDeadlock image net
  has_no_deadlock = record {
    no_deadlock = nothing_done;
    never = λ locked. locked.1 (stands locked.0);
    stands_quiet = stands;
    lessens = lessens;
    rounds_deliver = rounds_law;
    rounds_suffice = λ n few. rounds_law is.acyclic.0 is.acyclic.1 n (within_bound n few);
    fair_deliver = fair_law;
    fair_suffice = λ n few. fair_law is.acyclic.0 is.acyclic.1 n (within_bound n few);
    plain_work = λ plain rank. plain_work plan routes rank plain net.network.nodes;
    plain_bound = λ plain. plain_work plan routes (highest_rank plan) plain net.network.nodes;
    bounded = bound_by_tokens plan net.network.nodes;
  }

-- where a network with its record stands still packets are blocked only where dependencies lead into a cycle
pub blocks_at_cycles : (net : NetRecord) → IsPlan net.network.plan → (kept : IsNetRecord net) → AreBytesSent kept.told.0 → BlocksAtCycles net
blocks_at_cycles net is_plan kept sent image is still =
    stands_blocked net.network.plan image net.starts kept.told.0 net.network.nodes is_plan is.accepted is.set (starts_are_started Token net.network.plan net.starts is.started) kept.started
    kept.told.1.run (is.unchanged kept.told.0 kept.told.1) sent still
