-- Each terminator that arrives in a run from a start tells its packet.
use Rattle.{c104_event.specs.declared.events.Event.Event, c104_net.specs.Deliveries.arrived_at, c104_node.specs.MappedNodes.map_node}
use Rattle.c104_node.specs.{Nodes.{Node, arrived_tokens}, Origins.IsSure, Starts.start_node, Traced.{sent_token, traced_kind}, Traces.part}
use Rattle.{c104_node.specs.declared.{node.NodeOf.NodeOf, starts.NodeStart.NodeStart, traced.Traced.Traced}, c104_plan.specs.Plans.Plan}
use Rattle.c104_run.{proofs.{NodeMaps.starts_same, StepMaps.run_lift}, specs.Network.{Network, network_of, terminal_place}}
use Rattle.{c104_run.specs.{Runs.IsDoneRun, TracedRuns.map_network}, c104_switch.specs.Actions.Reply, c104_token.specs.Kinds.Kind}
use Rattle.{c104_token.specs.declared.tokens.Token.{TheVariants.Byte, Token}, std.proofs.Common.{List, None, Option, Some, [], ap, map}}
use Rattle.std.proofs.{Common.{option_map, refl, slice_get, subst, suc, sym, zero, ℕ, ◌∷◌, ◌≡◌}, lemmas.Bool.true≢false}
use Rattle.std.proofs.lemmas.Option.{slice_get-map}

-- a token with what is sure of it
abbrev Sure : Type 0
Sure = (x : Traced) × IsSure x

pub sure_sent : (terminal number place : ℕ) (x : Token) → IsSure (sent_token terminal number place x)
sure_sent terminal number place x = λ e. (record { terminal = terminal; number = number; place = place }, refl)

sure_random : Token → Sure
sure_random (Byte b) = (record { token = Byte b; source = None }, λ e. absurd (true≢false (sym e)))
sure_random Token.Eop = (sent_token 0 0 0 Token.Eop, sure_sent 0 0 0 Token.Eop)
sure_random Token.Eom = (sent_token 0 0 0 Token.Eom, sure_sent 0 0 0 Token.Eom)

abbrev sure_kind : Kind Sure
sure_kind = record {
  plain = λ x. x.0.token;
  byte = λ x. None;
  random = λ place x. sure_random x;
  sent = λ terminal number place x. (sent_token terminal number place x, sure_sent terminal number place x);
}

byte_of_random : (j b : ℕ) → traced_kind.random j (Byte b) ≡ (sure_random (Byte b)).0
unfolding sure_random
byte_of_random j b = refl

abbrev traced_of : Sure → Traced
traced_of x = x.0

-- what is at a place of a mapped list
pub mapped : {X Y : Type 0} (g : X → Y) (xs : List X) (k : ℕ) (y : Y) → slice_get (map g xs) k ≡ Some y → (x : X) × (slice_get xs k ≡ Some x) × (g x ≡ y)
mapped g [] k y is = absurd (cc)
mapped g (x ∷ xs) zero y is = (x, refl, cc)
mapped g (x ∷ xs) (suc k) y is = mapped g xs k y is

all_sure : (l : List Sure) (k : ℕ) (x : Traced) → slice_get (map traced_of l) k ≡ Some x → IsSure x
all_sure l k x e = let one = mapped traced_of l k x e in subst IsSure one.2 one.0.1

sure_node : (o : Option (Node Sure)) (k : ℕ) (x : Traced) → slice_get (part [] arrived_tokens (option_map (map_node traced_of) o)) k ≡ Some x → IsSure x
sure_node (Some (NodeOf.Terminal T)) k x e = all_sure T.arrived k x e
sure_node o k x e = absurd (cc)

-- whatever was done since a start, accepted or not, each terminator that arrived tells its packet
pub arrived_sure : (plan : Plan) (starts : List NodeStart) (events : List (Event × Reply)) (ended : Network Traced) → IsDoneRun traced_kind (network_of plan (map start_node starts)) events ended → (t k : ℕ) (x : Traced) → slice_get (arrived_at ended t) k ≡ Some x → IsSure x
arrived_sure plan starts events ended is t k x e =
    let from : network_of plan (map start_node starts) ≡ map_network traced_of (network_of plan (map start_node starts)) = ap (network_of plan) (sym (starts_same traced_of starts)) in
    let run = run_lift traced_of sure_kind traced_kind (λ x. refl) byte_of_random (λ t n j x. refl) (network_of plan (map start_node starts)) ended events (subst (λ n. IsDoneRun traced_kind n events ended) from is) in
    let e' : slice_get (arrived_at (map_network traced_of run.0) t) k ≡ Some x = subst (λ (n : Network Traced). slice_get (arrived_at n t) k ≡ Some x) (sym run.2) e in
    sure_node (slice_get run.0.nodes (terminal_place run.0.plan t)) k x (rw (sym (slice_get-map (map_node traced_of) run.0.nodes (terminal_place run.0.plan t))) e')
