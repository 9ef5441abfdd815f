-- In an accepted network whose channels don't depend on one another in a cycle rounds go on until all is quiet: then each
-- packet with an owner was received by it.
use Rattle.c104_check.specs.{ChannelDependencies.IsRanking, Routes.{IsAccepted, Routes, routes_of}, Walks.port_of}
use Rattle.{c104_check.specs.declared.ports.SwitchPort.SwitchPort, c104_deadlock.proofs.{RoundsAlike.AreRounds, WorkRounds.rounds_rest}}
use Rattle.c104_deadlock.specs.HeaderWork.{ahead_at, first_ahead, full_incoming, full_input, full_link, full_node, full_work, random_ahead}
use Rattle.c104_deadlock.specs.{HeaderWork.random_work, Work.{header_held, level, sum_at, weigh}}
use Rattle.{c104_event.specs.declared.{events.Event.Event, faults.EventFault.EventFault}, c104_link.specs.Buffers.Incoming}
use Rattle.c104_net.proofs.{PacketInvariant.IsLabelled, Promises.{IsStart, each, promised, starts}, RunSteps.header_positive}
use Rattle.c104_net.{proofs.{SentBytes.AreBytesSent, TracedRuns.token_of}, specs.{Deliveries.Promise, Unchanged.IsUnchanged}}
use Rattle.c104_node.specs.{MappedNodes.{map_incoming, map_input, map_node, map_outgoing}, Nodes.Node, Traced.traced_kind}
use Rattle.{c104_node.specs.declared.{node.NodeOf.NodeOf, traced.Traced.Traced}, c104_plan.specs.{PlanImage.Image, Plans.{IsPlan, Plan}}}
use Rattle.{c104_plan.specs.{Wiring.peer, declared.ports.Port.Port}, c104_run.{proofs.StepMaps.apply_map, specs.Balance.IsSteady}}
use Rattle.c104_run.specs.{EventRuns.{Outcome, run_events, unless_fault}, Network.{Network, network_apply}, QuietNets.IsQuiet}
use Rattle.{c104_run.specs.{Runs.IsDoneRun, Standstill.IsStarted, TracedRuns.map_network}, c104_switch.specs.Actions.Reply}
use Rattle.c104_switch.specs.{Phases.with_header, Switch.Input, declared.phase.Phase.{Phase, TheVariants.{Fresh, Head, Want}}}
use Rattle.{c104_token.specs.{Kinds.plain_kind, declared.tokens.Token.Token}, std.proofs.Common.{Err, List, Ok, Result, Some, [], ap}}
use Rattle.std.proofs.{Common.{length, map, refl, subst, suc, sym, ℕ, ◌*◌, ◌+◌, ◌-◌, ◌<◌, ◌∙◌, ◌∷◌, ◌≡◌}, lemmas.List.length-map}

-- the work doesn't read tokens
module _ {A B : Type 0} (f : A → B) where
  weigh_map : (a : ℕ) (xs : List A) → weigh a (map f xs) ≡ weigh a xs
  weigh_map a [] = refl
  weigh_map a (x ∷ xs) = ap (λ n. a + n) (weigh_map a xs)

  held_map : (a : ℕ) (ph : Phase (List A)) → weigh a (header_held (with_header (map f) ph)) ≡ weigh a (header_held ph)
  held_map a (Head b) = weigh_map a b
  held_map a (Want b g) = weigh_map a b
  held_map a ph = refl

  sum_map : {X Y : Type 0} (u : X → Y) (v : ℕ → Y → ℕ) (w : ℕ → X → ℕ) → ((j : ℕ) (x : X) → v j (u x) ≡ w j x) → (j : ℕ) (xs : List X) → sum_at v j (map u xs) ≡ sum_at w j xs
  sum_map u v w h j [] = refl
  sum_map u v w h j (x ∷ xs) = rw (h j x, sum_map u v w h (suc j) xs) refl

  module _ (plan : Plan) (rank ahead : SwitchPort → ℕ) where
    first_map : (a : ℕ) (ph : Phase (List A)) → first_ahead plan rank ahead a (with_header (map f) ph) ≡ first_ahead plan rank ahead a ph
    first_map a Fresh = refl
    first_map a ph = refl

    incoming_map : (far a : ℕ) (b : Incoming A) → full_incoming plan rank ahead far a (map_incoming f b) ≡ full_incoming plan rank ahead far a b
    incoming_map far a b = rw (weigh_map (8 * far + 2 + a) b.items, length-map b.items f) refl

    input_map : (s l : ℕ) (p : Input A) → full_input plan rank ahead s l (map_input f p) ≡ full_input plan rank ahead s l p
    input_map s l p = rw (incoming_map (level plan rank (Some (Port.Switch s l))) (ahead (port_of s l)) p.buffer, held_map (8 * level plan rank (Some (Port.Switch s l))) p.phase, first_map (ahead (port_of s l)) p.phase) refl

    node_map : (k : ℕ) (n : Node A) → full_node plan rank ahead k (map_node f n) ≡ full_node plan rank ahead k n
    node_map k (NodeOf.Switch S) = rw (
      sum_map (map_input f) (full_input plan rank ahead k) (full_input plan rank ahead k) (input_map k) 0 S.inputs,
      sum_map (map_outgoing f) (full_link plan rank ahead k) (full_link plan rank ahead k) (λ l q. weigh_map (8 * level plan rank (peer plan (Port.Switch k l)) + 4 + ahead_at plan rank ahead (peer plan (Port.Switch k l))) q.items) 0 S.outputs,
    ) refl
    node_map k (NodeOf.Terminal T) = rw (incoming_map 0 0 T.input, weigh_map (8 * level plan rank (peer plan (Port.Terminal (k - length plan.switches))) + 4 + ahead_at plan rank ahead (peer plan (Port.Terminal (k - length plan.switches)))) T.output.items) refl

    pub full_map : (nodes : List (Node A)) → full_work plan rank ahead (map (map_node f) nodes) ≡ full_work plan rank ahead nodes
    full_map nodes = sum_map (map_node f) (full_node plan rank ahead) (full_node plan rank ahead) node_map 0 nodes

  pub work_map : (plan : Plan) (routes : Routes) (rank : SwitchPort → ℕ) (nodes : List (Node A)) → random_work plan routes rank (map (map_node f) nodes) ≡ random_work plan routes rank nodes
  work_map plan routes rank nodes = full_map plan rank (random_ahead routes rank) nodes

-- a run of events over plain tokens is that over tokens that tell where they came from
pub run_plain : (net : Network Traced) (es : List Event) → ◌≡◌ {A = Outcome (Network Token)} (run_events (network_apply plain_kind) (map_network token_of net) es) ((run_events (network_apply traced_kind) net es).0, map_network token_of (run_events (network_apply traced_kind) net es).1)
run_plain net [] = refl
run_plain net (e ∷ es) =
    ap (λ (z : Result Reply EventFault × Network Token). unless_fault z.0 z.1 (λ n. run_events (network_apply plain_kind) n es)) (apply_map token_of traced_kind plain_kind (λ x. refl) (λ j b. refl) (λ t n j x. refl) net e)
    ∙ on (network_apply traced_kind net e).0 (network_apply traced_kind net e).1 (run_plain (network_apply traced_kind net e).1 es)
  where
    on : (answer : Result Reply EventFault) (next : Network Traced) → ◌≡◌ {A = Outcome (Network Token)} (run_events (network_apply plain_kind) (map_network token_of next) es) ((run_events (network_apply traced_kind) next es).0, map_network token_of (run_events (network_apply traced_kind) next es).1) →
        ◌≡◌ {A = Outcome (Network Token)} (unless_fault answer (map_network token_of next) (λ n. run_events (network_apply plain_kind) n es))
        ((unless_fault answer next (λ n. run_events (network_apply traced_kind) n es)).0, map_network token_of (unless_fault answer next (λ n. run_events (network_apply traced_kind) n es)).1)
    on (Ok r) next later = later
    on (Err k) next later = refl

-- from a traced run: after more rounds than there is work nothing stands anywhere, and all promises are kept, so that
-- each packet with a whole header that has an owner was received by it
pub rounds_deliver : (image : Image) (start mid ended : Network Traced) (events : List (Event × Reply)) (rank : SwitchPort → ℕ) (n : ℕ) (es : List Event) → AreRounds start.plan n es → IsPlan start.plan → IsAccepted (routes_of start.plan image) → IsRanking (routes_of start.plan image) rank → IsStart image start → IsDoneRun traced_kind start events mid → IsUnchanged (routes_of start.plan image) events → AreBytesSent events →
    IsSteady mid → IsStarted mid → random_work start.plan (routes_of start.plan image) rank mid.nodes < n → ◌≡◌ {A = Outcome (Network Traced)} (run_events (network_apply traced_kind) mid es) (Ok tt, ended) → IsQuiet ended × Promise (routes_of start.plan image) ended
rounds_deliver image start mid ended events rank n es rounds is_plan accepted falls is_start is_run all sent steady started few is =
    let labelled : IsLabelled (routes_of start.plan image) = record { accepted = accepted; positive = header_positive start.plan image } in
    let k = each start.plan image is_plan labelled start.nodes mid events is_run all sent (starts start.plan image is_plan labelled start.nodes is_start) in
    let r = rounds_rest start.plan image is_plan labelled rank falls n es k.0 ended rounds k.2 (subst IsStarted (sym k.1) started) (subst IsSteady (sym k.1) steady)
    (subst (λ (net : Network Traced). random_work start.plan (routes_of start.plan image) rank net.nodes < n) (sym k.1) few)
    (subst (λ net. ◌≡◌ {A = Outcome (Network Traced)} (run_events (network_apply traced_kind) net es) (Ok tt, ended)) (sym k.1) is) in
    (subst IsQuiet r.is r.quiet, subst (Promise (routes_of start.plan image)) r.is (promised start.plan image is_plan labelled r.nodes r.good))
