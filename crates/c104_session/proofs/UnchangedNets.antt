-- A network that nobody changed, with what its terminals have sent: by an event, by rounds, and by the debugger's peeks.
use Rattle.{c104_check.specs.Routes.Routes, c104_deadlock.proofs.RoundMembers.each_of_round_with}
use Rattle.{c104_event.specs.declared.{events.Event.Event, faults.EventFault.EventFault}, c104_net.proofs.JointKeeps.IsOfRound}
use Rattle.c104_net.{proofs.SentBytes.{AreBytesSent, SendsBytes}, specs.{Deliveries.sent_at, Unchanged.{IsUnchanged, MayHappen}}}
use Rattle.c104_node.specs.{Nodes.Node, Starts.start_node, Traces.{noted_all, seatless}, declared.starts.NodeStart.NodeStart}
use Rattle.{c104_plan.{proofs.RangeLists.each_append, specs.Plans.{IsPlan, Plan}}, c104_run.proofs.RecordSteps.{done_made, same_record}}
use Rattle.c104_run.proofs.{RecordSteps.ticket_left, RecordedRuns.record_kept, RoundJoins.apply_plan, RoundRuns.{Applied, undone_left}}
use Rattle.c104_run.{proofs.{RunRecords.{record_on, seatless_order}, UndoneEvents.undone_deeds}, specs.EventDeeds.event_deeds}
use Rattle.c104_run.specs.{EventRuns.{run_events, unless_fault}, HandedWords.{round_with, rounds_with, words_behind}}
use Rattle.c104_run.specs.{NetRecords.{IsNetRecord, NetRecord, is_done, ticket_after}, Network.{Network, network_apply, network_of}}
use Rattle.c104_run.specs.{RecordedRuns.{record_apply, record_at, record_stage}, Runs.{IsDoneRun, IsRunRecord}, Stages.stage_after}
use Rattle.{c104_run.specs.{Stages.stage_full, declared.words.Words.Words}, c104_session.proofs.SentLists.{packets_append, sent_after}}
use Rattle.{c104_session.specs.PrintedPackets.{event_sends, packets_of}, c104_switch.specs.Actions.{Reply, is_ready}}
use Rattle.{c104_token.specs.{Kinds.plain_kind, declared.{packets.Packet.Packet, tokens.Token.Token}}, std.proofs.Common.{Bool, Err, List}}
use Rattle.std.proofs.Common.{Ok, Result, [], ap, append-nil, arith, false, if◌then◌else◌, inl, length, map, refl, subst, suc, sym, true}
use Rattle.std.{proofs.Common.{zero, ℕ, ◌&&◌, ◌++◌, ◌+◌, ◌∙◌, ◌∷◌, ◌≡◌}, specs.List.AllByRecursion}

-- what is said of the nodes of a network whose terminals sent these packets
abbrev pub Fact : Type 1
Fact = List (ℕ × Packet) → List (Node Token) → Type 0

-- a network with its record that nobody changed in a run from these starts, whose terminals sent these packets, and of whose
-- nodes this is so
pub record IsUnchangedNet (routes : Routes) (plan : Plan) (starts : List NodeStart) (fact : Fact) (sends : List (ℕ × Packet)) (net : NetRecord) : Type 0 where
  pub same_plan : net.network.plan ≡ plan
  pub same_starts : net.starts ≡ starts
  pub kept : IsNetRecord net
  pub events : List (Event × Reply)
  pub told : IsRunRecord plain_kind net.network.plan seatless (map start_node net.starts) net.network.nodes net.traces net.count events
  pub bytes : AreBytesSent events
  pub unchanged : IsUnchanged routes events
  pub sent : (t : ℕ) → sent_at net.network t ≡ packets_of t sends
  pub holds : fact sends net.network.nodes

-- the same with another fact
pub of_fact : (routes : Routes) (plan : Plan) (starts : List NodeStart) (fact other : Fact) (sends : List (ℕ × Packet)) (net : NetRecord) → IsUnchangedNet routes plan starts fact sends net → other sends net.network.nodes → IsUnchangedNet routes plan starts other sends net
of_fact routes plan starts fact other sends net was holds = search arith

-- the run that it came from, in this plan and from these starts
pub run_so_far : (routes : Routes) (plan : Plan) (starts : List NodeStart) (fact : Fact) (sends : List (ℕ × Packet)) (net : NetRecord) (was : IsUnchangedNet routes plan starts fact sends net) → IsDoneRun plain_kind (network_of plan (map start_node starts)) was.events (network_of plan net.network.nodes)
run_so_far routes plan starts fact sends net was = search arith

-- each event that may happen keeps a fact
abbrev pub Keeps : Routes → Plan → List NodeStart → Fact → Type 0
Keeps routes plan starts fact = (sends : List (ℕ × Packet)) (net : NetRecord) (e : Event) (r : Reply) (next : Network Token) →
    IsUnchangedNet routes plan starts fact sends net → ◌≡◌ {A = Applied (Network Token)} (Ok r, next) (network_apply plain_kind net.network e) →
    is_ready r ≡ true → MayHappen routes e r → SendsBytes e → fact (sends ++ event_sends e) next.nodes

-- nothing more is said
abbrev pub nothing : Fact
nothing sends nodes = Unit {0}

pub keeps_nothing : (routes : Routes) (plan : Plan) (starts : List NodeStart) → Keeps routes plan starts nothing
keeps_nothing routes plan starts sends net e r next was due ready may bytes = tt

pub unchanged_on : (routes : Routes) (events : List (Event × Reply)) (e : Event) (r : Reply) → IsUnchanged routes events → MayHappen routes e r → IsUnchanged routes (events ++ (e, r) ∷ [])
unchanged_on routes [] e r all may = (may, tt)
unchanged_on routes (d ∷ events) e r all may = (all.0, unchanged_on routes events e r all.1 may)

-- what an event sends, where it was done
abbrev pub sends_if : Bool → Event → List (ℕ × Packet)
sends_if done e = if done then event_sends e else []

module _ (routes : Routes) (plan : Plan) (is_plan : IsPlan plan) (starts : List NodeStart) (fact : Fact) (keeps : Keeps routes plan starts fact) where
  abbrev Is : List (ℕ × Packet) → NetRecord → Type 0
  Is sends net = IsUnchangedNet routes plan starts fact sends net

  -- one event
  module _ (sends : List (ℕ × Packet)) (net : NetRecord) (e : Event) (bytes : SendsBytes e) (was : IsUnchangedNet routes plan starts fact sends net) where
    here_plan : IsPlan net.network.plan
    here_plan = subst IsPlan (sym was.same_plan) is_plan

    -- the record after an event that came to this in the network
    abbrev after : Applied (Network Token) → NetRecord
    after due = record_at net.starts (stage_after true (record_stage net) e due).1

    abbrev IsDue : Applied (Network Token) → Type 0
    IsDue due = due ≡ network_apply plain_kind net.network e

    abbrev IsAfter : Applied (Network Token) → Type 0
    IsAfter due = Is (sends ++ sends_if (is_done due.0) e) (after due)

    none_more : {X : Type 0} (xs : List X) → xs ≡ xs ++ []
    none_more xs = sym (append-nil xs)

    -- it was done
    done : (r : Reply) (next : Network Token) → IsDue (Ok r, next) → is_ready r ≡ true → MayHappen routes e r → IsNetRecord (after (Ok r, next)) → Is (sends ++ event_sends e) (after (Ok r, next))
    done r next due ready may kept =
        let same : next.plan ≡ net.network.plan = ap (λ (d : Applied (Network Token)). d.1.plan) due ∙ apply_plan plain_kind net.network e in
        let whole : next ≡ network_of net.network.plan next.nodes = ap (λ p. network_of p next.nodes) same in
        let there : ◌≡◌ {A = Applied (Network Token)} (Ok r, network_of net.network.plan next.nodes) (network_apply plain_kind net.network e) = ap (λ (n : Network Token). (Ok r, n)) (sym whole) ∙ due in
        let on = record_on plain_kind net.network.plan seatless (map start_node net.starts) net.network.nodes next.nodes net.traces (noted_all true net.traces (event_deeds net.network.plan (seatless net.count) e r)) net.count was.events false e r was.kept.steady.in_place was.told (inl there) ready refl (seatless_order net.network.plan 0 (was.events ++ (e, r) ∷ [])) in
        let counted : net.count + 1 ≡ ticket_after net.count (is_ready r) = ticket_left net (after (Ok r, next)) here_plan same was.kept e ∙ ap (ticket_after net.count) (sym ready) in
        let step = done_made plain_kind net.network (network_of net.network.plan next.nodes) r e there ready in
        record {
          same_plan = same ∙ was.same_plan;
          same_starts = was.same_starts;
          kept = kept;
          events = was.events ++ (e, r) ∷ [];
          told = subst (λ p. IsRunRecord plain_kind p seatless (map start_node net.starts) next.nodes (after (Ok r, next)).traces (after (Ok r, next)).count (was.events ++ (e, r) ∷ [])) (sym same)
              (subst (λ n. IsRunRecord plain_kind net.network.plan seatless (map start_node net.starts) next.nodes (after (Ok r, next)).traces n (was.events ++ (e, r) ∷ [])) counted on);
          bytes = each_append (λ (x : Event × Reply). SendsBytes x.0) was.events ((e, r) ∷ []) was.bytes (bytes, tt);
          unchanged = unchanged_on routes was.events e r was.unchanged may;
          sent = λ t.
              ap (λ (n : Network Token). sent_at n t) whole
              ∙ sent_after plain_kind net.network.plan net.network.nodes next.nodes e r step t
              ∙ ap (λ ps. ps ++ packets_of t (event_sends e)) (was.sent t)
              ∙ sym (packets_append t sends (event_sends e));
          holds = keeps sends net e r next was due ready may bytes;
        }

    -- it wasn't
    undone : (answer : Result Reply EventFault) (next : Network Token) → IsDue (answer, next) → is_done answer ≡ false → Is sends (after (answer, next))
    undone answer next due not = search (arith, undone_left, undone_deeds, same_record)

    by_answer : (answer : Result Reply EventFault) (next : Network Token) → IsDue (answer, next) → ((r : Reply) → answer ≡ Ok r → MayHappen routes e r) → IsNetRecord (after (answer, next)) → IsAfter (answer, next)
    by_answer (Err f) next due may kept = subst (λ (s : List (ℕ × Packet)). Is s (after (Err f, next))) (none_more sends) (undone (Err f) next due refl)
    by_answer (Ok r) next due may kept = by_ready (is_ready r) refl
      where
        by_ready : (b : Bool) → is_ready r ≡ b → Is (sends ++ sends_if b e) (after (Ok r, next))
        by_ready true ready = done r next due ready (may r refl) kept
        by_ready false not = subst (λ (s : List (ℕ × Packet)). Is s (after (Ok r, next))) (none_more sends) (undone (Ok r) next due not)

    abbrev or_full : Bool → Applied (Network Token)
    or_full full = if full then (Err EventFault.TraceFull, net.network) else network_apply plain_kind net.network e

    -- what an event leaves that may happen
    pub event_leaves : ((r : Reply) → (record_apply net e).0 ≡ Ok r → MayHappen routes e r) → Is (sends ++ sends_if (is_done (record_apply net e).0) e) (record_apply net e).1
    event_leaves may = by_full (stage_full true (record_stage net) e && is_done (network_apply plain_kind net.network e).0) may (record_kept net e here_plan was.kept)
      where
        by_full : (full : Bool) → ((r : Reply) → (or_full full).0 ≡ Ok r → MayHappen routes e r) → IsNetRecord (after (or_full full)) → IsAfter (or_full full)
        by_full full may kept = search (arith, none_more, by_answer)

  -- events of a round send nothing, and may happen
  none_sent : (e : Event) → IsOfRound e → (b : Bool) → sends_if b e ≡ []
  none_sent e of b = search arith

  no_bytes : (e : Event) → IsOfRound e → SendsBytes e
  no_bytes e of = search arith

  may_happen : (e : Event) → IsOfRound e → (r : Reply) → MayHappen routes e r
  may_happen e of r = search arith

  pub round_event : (sends : List (ℕ × Packet)) (net : NetRecord) (e : Event) → IsOfRound e → Is sends net → Is sends (record_apply net e).1
  round_event sends net e of was =
      subst (λ (s : List (ℕ × Packet)). Is s (record_apply net e).1) (ap (λ (s : List (ℕ × Packet)). sends ++ s) (none_sent e of (is_done (record_apply net e).0)) ∙ append-nil sends)
      (event_leaves sends net e (no_bytes e of) was (λ r is. may_happen e of r))

  -- what events of rounds leave
  pub events_leave : (sends : List (ℕ × Packet)) (events : List Event) (net : NetRecord) → AllByRecursion IsOfRound events → Is sends net → Is sends (run_events record_apply net events).1
  events_leave sends [] net of was = was
  events_leave sends (e ∷ events) net of was = by_fault (λ next left. events_leave sends events next of.1 left) (record_apply net e).0 (record_apply net e).1 (round_event sends net e of.0 was)
    where
      by_fault : ((next : NetRecord) → Is sends next → Is sends (run_events record_apply next events).1) → (answer : Result Reply EventFault) (next : NetRecord) → Is sends next → Is sends (unless_fault answer next (λ n. run_events record_apply n events)).1
      by_fault more answer next left = search arith

-- all events of rounds are events of a round
pub of_round : (words : Words) (plan : Plan) → AllByRecursion IsOfRound (round_with words plan)
of_round words plan =
    each_of_round_with plan IsOfRound words (λ p q wire. tt) (λ p q wire. tt) (λ s l w q wire. tt)
    (λ s i o inside input output. tt) (λ t inside. tt)

pub of_rounds : (words : Words) (plan : Plan) (n : ℕ) → AllByRecursion IsOfRound (rounds_with words plan n)
of_rounds words plan zero = tt
of_rounds words plan (suc n) =
    let next : Words = words_behind words (length plan.switches) in
    each_append IsOfRound (round_with words plan) (rounds_with next plan n) (of_round words plan) (of_rounds next plan n)
