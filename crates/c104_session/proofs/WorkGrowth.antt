-- An event that may happen makes the work that is left larger by no more than the weight of the tokens that it sends; and one
-- of a round leaves less.
use Rattle.c104_check.specs.{ChannelDependencies.IsRanking, Routes.{IsAccepted, Routes, routes_of}, declared.ports.SwitchPort.SwitchPort}
use Rattle.c104_deadlock.proofs.{RoundsEnd.work_map, WorkBounds.{weigh_is, weigh_more}, WorkEvents.event_less, WorkRounds.falling}
use Rattle.c104_deadlock.{proofs.WorkSteps.{sum_set, weigh-append}, specs.HeaderWork.{ahead_at, ahead_by, full_node, random_ahead}}
use Rattle.{c104_deadlock.specs.{HeaderWork.{random_bound, random_work}, Work.{level, weigh}}, c104_event.specs.declared.events.Event.Event}
use Rattle.{c104_event.specs.declared.faults.EventFault.EventFault, c104_link.proofs.MadeSteps.{at_place_made, from_place_made, given}}
use Rattle.{c104_link.specs.Steps.step_at, c104_net.proofs.{CommandEvents.read_sides, PacketInvariant.IsLabelled, Promises.{each, starts}}}
use Rattle.c104_net.proofs.{RunSteps.header_positive, SentBytes.{AreBytesSent, SendsBytes}, StartMaps.starts_are, TracedRuns.token_of}
use Rattle.c104_net.{proofs.TracedRuns.traced_from, specs.{RoundEvents.IsOfRound, Unchanged.{AreStartsOf, IsHarmless, IsUnchanged}}}
use Rattle.{c104_net.specs.Unchanged.MayHappen, c104_node.specs.{Nodes.{Node, node_send}, Starts.start_node, Terminals.sent_from}}
use Rattle.c104_node.specs.{Terminals.{sent_tokens, terminal_send}, Traced.traced_kind, declared.node.NodeOf.NodeOf}
use Rattle.{c104_node.specs.declared.{starts.NodeStart.NodeStart, traced.Traced.Traced}, c104_plan.specs.{PlanImage.Image, Plans.IsPlan}}
use Rattle.{c104_plan.specs.{Plans.Plan, Wiring.peer, declared.ports.Port.Port}, c104_regs.specs.declared.settings.Settings.Settings}
use Rattle.c104_run.proofs.{EventSteps.{control_named, send_named}, RecordSteps.done_made, RoundRuns.Applied, StepMaps.apply_map}
use Rattle.c104_run.specs.{NetRecords.NetRecord, Network.{Network, network_apply, network_of, network_step, placed_network, terminal_place}}
use Rattle.{c104_run.specs.{Runs.IsDoneRun, TracedRuns.map_network}, c104_session.proofs.UnchangedNets.{Fact, IsUnchangedNet, Keeps}}
use Rattle.c104_session.{proofs.UnchangedNets.run_so_far, specs.{DeliveredRuns.{sends_weight, token_weight}, PrintedPackets.event_sends}}
use Rattle.{c104_switch.specs.{Actions.{Reply, is_ready}, declared.actions.ReplyOf.ReplyOf}, c104_token.specs.Kinds.{Kind, plain_kind}}
use Rattle.{c104_token.specs.declared.{packets.Packet.Packet, tokens.Token.Token}, std.proofs.Common.{List, Ok, Option, Result, Some, []}}
use Rattle.std.proofs.Common.{ap, arith, length, length-append, map, refl, slice_get, slice_set, subst, suc, sym, true, ℕ, ◌*◌, ◌++◌, ◌+◌}
use Rattle.std.proofs.{Common.{◌-◌, ◌<◌, ◌∙◌, ◌∷◌, ◌≡◌, ◌≤◌}, Math.Nat.{suc-mul, zero-mul}, lemmas.{Bool.cases_Bool, List.length-map}}
use Rattle.std.proofs.lemmas.Option.{some_pair_parts}

times_more : (n a b : ℕ) → a ≤ b → n * a ≤ n * b
times_more n a b less = search (arith, zero-mul, suc-mul)

length_sent : {A : Type 0} (kind : Kind A) (t n j : ℕ) (xs : List Token) → length (sent_from kind t n j xs) ≡ length xs
length_sent kind t n j [] = refl
length_sent kind t n j (x ∷ xs) = ap suc (length_sent kind t n (suc j) xs)

length_tokens : (t n : ℕ) (p : Packet) → length (sent_tokens plain_kind t n p) ≡ length p.bytes + 1
length_tokens t n p = search (arith, length_sent, length-append, length-map)

pub weight_parts : (w : ℕ) (xs ys : List (ℕ × Packet)) → sends_weight w (xs ++ ys) ≡ sends_weight w xs + sends_weight w ys
weight_parts w [] ys = omega arith
weight_parts w (x ∷ xs) ys = let rest = weight_parts w xs ys in omega (arith, rest)

-- the work by ranks is within its bound at the start and the weight of what was sent
abbrev pub IsWorkWithin : Plan → Image → (SwitchPort → ℕ) → Fact
IsWorkWithin plan image rank sends nodes =
    random_work plan (routes_of plan image) rank nodes
    ≤ random_bound {A = Token} plan (routes_of plan image) (placed_network plan image).nodes + sends_weight (token_weight plan (routes_of plan image)) sends

module _ (plan : Plan) (image : Image) (is_plan : IsPlan plan) (accepted : IsAccepted (routes_of plan image)) (first : List NodeStart) (set : AreStartsOf plan image first) (rank : SwitchPort → ℕ) (falls : IsRanking (routes_of plan image) rank)
    (within : (p : SwitchPort) → rank p ≤ 32 * length plan.switches) where
  abbrev routes : Routes
  routes = routes_of plan image

  abbrev ahead : SwitchPort → ℕ
  ahead = random_ahead routes rank

  abbrev weight : ℕ
  weight = token_weight plan routes

  -- no token that waits weighs more
  ahead_low : (p : SwitchPort) (x : Option Settings) → ahead_by routes.header (rank p) x ≤ routes.header * (8 * (32 * length plan.switches + 1)) + 1
  ahead_low p x = search (arith, times_more, cases_Bool)

  port_low : (q : Option Port) → 8 * level plan rank q + 4 + ahead_at plan rank ahead q ≤ weight
  port_low q = search (arith, ahead_low)

  module _ (nodes : List (Node Token)) (next : Network Token) (r : Reply) where
    abbrev work : List (Node Token) → ℕ
    work ns = random_work plan routes rank ns

    abbrev Step : Event → Type 0
    Step e = network_step plain_kind (network_of plan nodes) e ≡ Some (r, next)

    abbrev IsGrown : Event → Type 0
    IsGrown e = work next.nodes ≤ work nodes + sends_weight weight (event_sends e)

    -- a packet is sent
    send_grows : (t : ℕ) (p : Packet) → Step (Event.Send t p) → IsGrown (Event.Send t p)
    send_grows t p is =
        given (step_at nodes (terminal_place plan t) (node_send plain_kind t p)) _ (r, next) (send_named plain_kind (network_of plan nodes) t p ∙ is) (λ after made last.
        at_place_made nodes (terminal_place plan t) (node_send plain_kind t p) after made (λ n m here sent put.
        (let same : network_of plan after ≡ next = (some_pair_parts ReplyOf.Done r (network_of plan after) next last).1 in
        subst (λ (net : Network Token). work net.nodes ≤ work nodes + sends_weight weight (event_sends (Event.Send t p))) same
        (subst (λ ns. work ns ≤ work nodes + sends_weight weight (event_sends (Event.Send t p))) put (by_node n m here sent)))))
      where
        by_node : (n m : Node Token) → slice_get nodes (terminal_place plan t) ≡ Some n → node_send plain_kind t p n ≡ Some m → work (slice_set nodes (terminal_place plan t) m) ≤ work nodes + sends_weight weight (event_sends (Event.Send t p))
        by_node (NodeOf.Switch S) m here sent = absurd (cc)
        by_node (NodeOf.Terminal T) m here sent =
            let same : NodeOf.Terminal (terminal_send plain_kind t p T) ≡ m = cc in
            let k : ℕ = terminal_place plan t in
            let q : Option Port = peer plan (Port.Terminal (k - length plan.switches)) in
            let each : ℕ = 8 * level plan rank q + 4 + ahead_at plan rank ahead q in
            let tokens : List Token = sent_tokens plain_kind t (length T.sent) p in
            let all = sum_set (full_node plan rank ahead) nodes k (NodeOf.Terminal T) (NodeOf.Terminal (terminal_send plain_kind t p T)) here in
            let more = weigh-append each T.output.items tokens in
            let heavy = weigh_more each weight (port_low q) tokens in
            let counted : weigh weight tokens ≡ (length p.bytes + 1) * weight = sym (weigh_is weight tokens) ∙ ap (λ n. n * weight) (length_tokens t (length T.sent) p) in
            subst (λ n. work (slice_set nodes k n) ≤ work nodes + sends_weight weight (event_sends (Event.Send t p))) same (omega (arith, all, more, heavy, counted))

    -- a command is harmless
    control_grows : (s : ℕ) (bytes : List ℕ) → IsHarmless bytes r → Step (Event.Control s bytes) → IsGrown (Event.Control s bytes)
    control_grows s bytes may is = search (arith, given, control_named, from_place_made, some_pair_parts, read_sides, sum_set)

  -- an event of a round leaves less
  module _ (nodes : List (Node Token)) (events : List (Event × Reply)) (run : IsDoneRun plain_kind (network_of plan (map start_node first)) events (network_of plan nodes)) (unchanged : IsUnchanged routes events) (bytes : AreBytesSent events) where
    pub round_less : (e : Event) (x : Reply) (after : Network Token) → IsOfRound e → ◌≡◌ {A = Applied (Network Token)} (Ok x, after) (network_apply plain_kind (network_of plan nodes) e) → is_ready x ≡ true → random_work plan routes rank after.nodes < random_work plan routes rank nodes
    round_less e x after of due ready =
        let found = traced_from plan first nodes events run in
        let mid : Network Traced = network_of plan found.0 in
        let labelled : IsLabelled routes = record { accepted = accepted; positive = header_positive plan image } in
        let k = each plan image is_plan labelled (map start_node first) mid events found.1.run unchanged bytes (starts plan image is_plan labelled (map start_node first) (starts_are plan image first set)) in
        let next : Network Traced = (network_apply traced_kind mid e).1 in
        let both : ◌≡◌ {A = Applied (Network Token)} ((network_apply traced_kind mid e).0, map_network token_of next) (Ok x, after) =
        sym (apply_map token_of traced_kind plain_kind (λ x. refl) (λ j b. refl) (λ t n j x. refl) mid e) ∙ ap (λ ns. network_apply plain_kind (network_of plan ns) e) found.1.plain ∙ sym due in
        let answered : ◌≡◌ {A = Applied (Network Traced)} (Ok x, next) (network_apply traced_kind mid e) = ap (λ (o : Result Reply EventFault). (o, next)) (sym (ap (λ (z : Applied (Network Token)). z.0) both)) in
        let made = done_made traced_kind (network_of plan k.0) next x e (answered ∙ ap (λ n. network_apply traced_kind n e) (sym k.1)) ready in
        let less = event_less traced_kind plan is_plan rank ahead k.0 k.2.placed (falling plan image is_plan labelled rank falls k.0 k.2) e x next of made in
        let before : random_work plan routes rank k.0 ≡ random_work plan routes rank nodes =
        ap (λ (n : Network Traced). random_work plan routes rank n.nodes) k.1 ∙ sym (work_map token_of plan routes rank found.0) ∙ ap (random_work plan routes rank) found.1.plain in
        let later : random_work plan routes rank next.nodes ≡ random_work plan routes rank after.nodes =
        sym (work_map token_of plan routes rank next.nodes) ∙ ap (λ (z : Applied (Network Token)). random_work plan routes rank z.1.nodes) both in
        omega (arith, less, before, later)

  -- an event in a network that nobody changed
  module _ (fact : Fact) (sends : List (ℕ × Packet)) (net : NetRecord) (was : IsUnchangedNet routes plan first fact sends net) (r : Reply) (next : Network Token) (ready : is_ready r ≡ true) where
    abbrev IsDue : Event → Type 0
    IsDue e = ◌≡◌ {A = Applied (Network Token)} (Ok r, next) (network_apply plain_kind net.network e)

    there : (e : Event) → IsDue e → ◌≡◌ {A = Applied (Network Token)} (Ok r, next) (network_apply plain_kind (network_of plan net.network.nodes) e)
    there e due = due ∙ ap (λ p. network_apply plain_kind (network_of p net.network.nodes) e) was.same_plan

    step : (e : Event) → IsDue e → network_step plain_kind (network_of plan net.network.nodes) e ≡ Some (r, next)
    step e due = done_made plain_kind (network_of plan net.network.nodes) next r e (there e due) ready

    pub work_falls : (e : Event) → IsOfRound e → IsDue e → random_work plan routes rank next.nodes < random_work plan routes rank net.network.nodes
    work_falls e of due = round_less net.network.nodes was.events (run_so_far routes plan first fact sends net was) was.unchanged was.bytes e r next of (there e due) ready

    pub work_grows : (e : Event) → IsDue e → MayHappen routes e r → SendsBytes e → random_work plan routes rank next.nodes ≤ random_work plan routes rank net.network.nodes + sends_weight weight (event_sends e)
    work_grows (Event.Send t p) due may bytes = send_grows net.network.nodes next r t p (step (Event.Send t p) due)
    work_grows (Event.Control s command) due may bytes = control_grows net.network.nodes next r s command may (step (Event.Control s command) due)
    work_grows e due may bytes = let less = work_falls e tt due in omega (arith, less)

  pub keeps_within : Keeps routes plan first (IsWorkWithin plan image rank)
  keeps_within sends net e r next was due ready may bytes =
      let more = work_grows (IsWorkWithin plan image rank) sends net was r next ready e due may bytes in
      search (arith, weight_parts)
