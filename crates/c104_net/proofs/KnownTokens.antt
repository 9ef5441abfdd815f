-- In a run from a start whose traces are within their limit, each terminator that arrives tells its packet, and in numbers
-- that its eight bytes have room for. So what is kept of it tells the same packet.
use Rattle.{c104_event.specs.declared.{events.Event.Event, faults.EventFault.EventFault}, c104_net.proofs.RunOrigins.terminal_origins}
use Rattle.c104_net.proofs.{RunSteps.{done_possible, done_step_is}, SentCounts.{AddsSent, IsBounded, bounded_on, counts, low_number}}
use Rattle.{c104_net.proofs.{SentCounts.{sent_count, step_counts}, SureOrigins.{mapped, sure_sent}}, c104_node.specs.MappedNodes.map_node}
use Rattle.c104_node.specs.{Nodes.{Node, terminals_of}, Origins.{AreSure, IsSure}, Starts.start_node, Tagged.{tag, tagged_origins}}
use Rattle.c104_node.specs.{Terminals.Terminal, Traced.{sent_token, traced_kind}, Traces.Deed, declared.node.NodeOf.NodeOf}
use Rattle.c104_node.specs.declared.{origins.Origin.Origin, stamps.Stamp.Stamp, starts.NodeStart.NodeStart, tagged.TaggedToken.TaggedToken}
use Rattle.{c104_node.specs.declared.traced.Traced.Traced, c104_plan.specs.Plans.Plan, c104_run.proofs.NoFaults.node_there}
use Rattle.c104_run.proofs.{NodeMaps.starts_same, RoundJoins.apply_plan, StepMaps.{IsSentAlike, apply_alike}, TaggedRuns.IsSmall}
use Rattle.c104_run.{proofs.TaggedRuns.origins_same, specs.{EventDeeds.event_deeds, Network.{Network, event_fault, network_apply}}}
use Rattle.c104_run.specs.{Network.{network_of, network_step, terminal_place}, Runs.{IsDoneRun, run_deeds}, TracedRuns.map_network}
use Rattle.{c104_switch.specs.Actions.{Reply, is_ready}, c104_token.specs.{Kinds.Kind, declared.tokens.Token.{TheVariants.Byte, Token}}}
use Rattle.std.proofs.Common.{List, None, Ok, Result, Some, [], ap, arith, length, map, refl, slice_get, subst, suc, sym, true, ℕ, ◌%◌}
use Rattle.std.{proofs.{Common.{◌++◌, ◌<◌, ◌∙◌, ◌∷◌, ◌≡◌, ◌≤◌}, lemmas.{Bool.true≢false, Option.slice_get-map}}, specs.Option.option_map}

-- a token with what is known of it
abbrev pub Known : Type 0
Known = (x : Traced) × IsSure x × IsSmall x

abbrev pub known_of : Known → Traced
known_of x = x.0

small_sent : (t n j : ℕ) (x : Token) → t < 65536 → n < 4294967296 → IsSmall (sent_token t n j x)
small_sent t n j x terminal number = grind arith

small_none : (x : Token) → IsSmall (record { token = x; source = None })
small_none x = record { terminal = λ s is. absurd (let no : ⊥ = cc in no); number = λ s is. absurd (let no : ⊥ = cc in no) }

within_terminal : (t : ℕ) → t % 65536 < 65536
within_terminal t = grind arith

within_number : (n : ℕ) → n % 4294967296 < 4294967296
within_number n = grind arith

abbrev known_sent : ℕ → ℕ → ℕ → Token → Known
known_sent t n j x = (
  sent_token (t % 65536) (n % 4294967296) j x,
  sure_sent (t % 65536) (n % 4294967296) j x,
  small_sent (t % 65536) (n % 4294967296) j x (within_terminal t) (within_number n),
)

abbrev known_random : Token → Known
known_random (Byte b) = (record { token = Byte b; source = None }, (λ e. absurd (true≢false (sym e))), small_none (Byte b))
known_random Token.Eop = known_sent 0 0 0 Token.Eop
known_random Token.Eom = known_sent 0 0 0 Token.Eom

abbrev known_kind : Kind Known
known_kind = record { plain = λ x. x.0.token; byte = λ x. None; random = λ place x. known_random x; sent = known_sent }

plain_known : (x : Known) → traced_kind.plain (known_of x) ≡ known_kind.plain x
plain_known x = refl

random_known : (j b : ℕ) → traced_kind.random j (Byte b) ≡ known_of (known_kind.random j (Byte b))
random_known j b = refl

sent_alike : (t n j : ℕ) (x : Token) → t < 65536 → n < 4294967296 → sent_token t n j x ≡ sent_token (t % 65536) (n % 4294967296) j x
sent_alike t n j x terminal number = search arith

-- what an event of such a run sends has small numbers
alike : (net : Network Known) (e : Event) (r : Reply) (stamp : Stamp) (rest : List Deed) → length net.plan.terminals ≤ 65536 → event_fault net.plan e ≡ None → is_ready r ≡ true → IsBounded (counts (map (map_node known_of) net.nodes)) (event_deeds net.plan stamp e r ++ rest) → IsSentAlike known_of known_kind traced_kind plain_known random_known net e
alike net (Event.Send t packet) r stamp rest few possible ready bound = λ T at j x.
    let inside : t < length net.plan.terminals = node_there _ (length net.plan.terminals) t possible in
    let there : slice_get (counts (map (map_node known_of) net.nodes)) (terminal_place net.plan t) ≡ Some (length T.sent) =
    slice_get-map sent_count (map (map_node known_of) net.nodes) (terminal_place net.plan t)
    ∙ ap (option_map sent_count) (slice_get-map (map_node known_of) net.nodes (terminal_place net.plan t) ∙ ap (option_map (map_node known_of)) at) in
    let low = low_number net.plan t packet stamp r (counts (map (map_node known_of) net.nodes)) rest (length T.sent) ready bound there in
    sent_alike t (length T.sent) j x (omega (arith, inside, few)) (omega (arith, low))
alike net e r stamp rest few possible ready bound = tt

-- a run whose entries are within their limit is one of tokens of which it is known
known_run : (net : Network Known) (ended : Network Traced) (stamps : ℕ → Stamp) (n : ℕ) (events : List (Event × Reply)) → length net.plan.terminals ≤ 65536 → IsBounded (counts (map (map_node known_of) net.nodes)) (run_deeds net.plan stamps n events) → IsDoneRun traced_kind (map_network known_of net) events ended → (last : Network Known) × (map_network known_of last ≡ ended)
known_run net ended stamps n [] few bound is = (net, sym is)
known_run net ended stamps n (e ∷ events) few bound is =
    let here : Network Traced = map_network known_of net in
    let possible : event_fault net.plan e.0 ≡ None = done_possible traced_kind here is.0 e.0 e.1 is.1 in
    let made : network_step traced_kind here e.0 ≡ Some (e.1, is.0) = done_step_is traced_kind here is.0 e.0 e.1 is.1 is.2 in
    let adds : AddsSent net.plan e.0 (counts here.nodes) (counts is.0.nodes) = step_counts traced_kind net.plan here.nodes e.0 (e.1, is.0) made in
    let on : IsBounded (counts is.0.nodes) (run_deeds net.plan stamps (suc n) events) = bounded_on net.plan e.0 (stamps n) e.1 (counts here.nodes) (counts is.0.nodes) (run_deeds net.plan stamps (suc n) events) is.2 adds bound in
    let same : ◌≡◌ {A = Result Reply EventFault × Network Traced} (Ok e.1, is.0) ((network_apply known_kind net e.0).0, map_network known_of (network_apply known_kind net e.0).1) =
    is.1 ∙ apply_alike known_of known_kind traced_kind plain_known random_known net e.0 (alike net e.0 e.1 (stamps n) (run_deeds net.plan stamps (suc n) events) few possible is.2 bound) in
    let after : Network Known = (network_apply known_kind net e.0).1 in
    let next : is.0 ≡ map_network known_of after = ap (λ (z : Result Reply EventFault × Network Traced). z.1) same in
    let plan_same : after.plan ≡ net.plan = apply_plan known_kind net e.0 in
    known_run after ended stamps (suc n) events
    (subst (λ (p : Plan). length p.terminals ≤ 65536) (sym plan_same) few)
    (subst (λ (p : Plan). IsBounded (counts (map (map_node known_of) after.nodes)) (run_deeds p stamps (suc n) events)) (sym plan_same) (subst (λ (m : Network Traced). IsBounded (counts m.nodes) (run_deeds net.plan stamps (suc n) events)) next on))
    (subst (λ n. IsDoneRun traced_kind n events ended) next is.3)

all_sure : (l : List Known) → AreSure (map known_of l)
all_sure l k x e = let one = mapped known_of l k x e in subst IsSure one.2 one.0.1

all_small : (l : List Known) (k : ℕ) (x : Traced) → slice_get (map known_of l) k ≡ Some x → IsSmall x
all_small l k x e = let one = mapped known_of l k x e in subst IsSmall one.2 one.0.2

-- the packets that the terminators at a terminal tell
abbrev pub tagged_lists : Terminal TaggedToken → List Origin
tagged_lists t = tagged_origins t.arrived

known_lists : (nodes : List (Node Known)) → map tagged_lists (terminals_of (map (map_node tag) (map (map_node known_of) nodes))) ≡ map terminal_origins (terminals_of (map (map_node known_of) nodes))
known_lists [] = refl
known_lists (NodeOf.Switch s ∷ nodes) = known_lists nodes
known_lists (NodeOf.Terminal t ∷ nodes) = search (arith, origins_same, all_sure, all_small, known_lists nodes)

-- what is kept of the tokens that arrived in a run from a start tells the same packets
pub lists_same : (plan : Plan) (starts : List NodeStart) (stamps : ℕ → Stamp) (events : List (Event × Reply)) (ended : Network Traced) → length plan.terminals ≤ 65536 → IsBounded (counts (map (start_node {A = Traced}) starts)) (run_deeds plan stamps 0 events) → IsDoneRun traced_kind (network_of plan (map start_node starts)) events ended → map tagged_lists (terminals_of (map (map_node tag) ended.nodes)) ≡ map terminal_origins (terminals_of ended.nodes)
lists_same plan starts stamps events ended few bound is =
    let from : map (start_node {A = Traced}) starts ≡ map (map_node known_of) (map (start_node {A = Known}) starts) = sym (starts_same known_of starts) in
    let run = known_run (network_of plan (map start_node starts)) ended stamps 0 events few (subst (λ (ns : List (Node Traced)). IsBounded (counts ns) (run_deeds plan stamps 0 events)) from bound) (subst (λ (ns : List (Node Traced)). IsDoneRun traced_kind (network_of plan ns) events ended) from is) in
    subst (λ (n : Network Traced). map tagged_lists (terminals_of (map (map_node tag) n.nodes)) ≡ map terminal_origins (terminals_of n.nodes)) run.1 (known_lists run.0.nodes)
