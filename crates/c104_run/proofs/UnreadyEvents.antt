-- An event of a network has a reason exactly where it is answered with NotReady.
use Rattle.{c104_event.specs.declared.{events.Event.Event, faults.EventFault.EventFault}, c104_node.specs.Acts.{node_act, plain_reply}}
use Rattle.c104_node.specs.{NodeReasons.{node_claim_why, node_drain_why, node_input_why}, Nodes.{Node, is_switch}, PortActs.Acts}
use Rattle.c104_node.specs.{Traces.part, declared.{acts.ActOf.ActOf, crossings.Crossing.Crossing, node.NodeOf.TheVariants.Switch}}
use Rattle.{c104_node.specs.declared.node.NodeOf.TheVariants.Terminal, c104_plan.specs.{Plans.{IsPlan, Plan}, Wiring.peer}}
use Rattle.{c104_plan.specs.declared.ports.Port.Port, c104_run.proofs.{ActSteps.step_ready as acts_ready, AskCases.{AreCases, of_event}}}
use Rattle.c104_run.proofs.{NoFaults.{node_there, past_link, past_node}, RunRecords.{by_counts, counted}, UnreadyNodes.claim_here}
use Rattle.c104_run.{proofs.UnreadyNodes.{drain_here, input_here, joint_told, step_ready}, specs.{Balance.IsSteady, EventActs.Ask}}
use Rattle.c104_run.specs.{EventActs.{acts_step, ask_acts, crossing_acts, event_ask}, Network.{Network, event_fault, network_apply}}
use Rattle.c104_run.specs.Network.{network_step, outcome_if_ready, outcome_within_limit, terminal_place, told_step, wire_fault, wired_fault}
use Rattle.c104_run.specs.{Reasons.{acts_why, alone_why, claim_reason, event_why, is_unready, network_why}, declared.reason.Reason.Reason}
use Rattle.c104_switch.specs.{Actions.{Reply, is_ready}, Reasons.why_at, declared.actions.{ActionOf.ActionOf, ReplyOf.ReplyOf}}
use Rattle.{c104_switch.specs.declared.unready.Unready.Unready, c104_token.specs.{Kinds.Kind, declared.packets.Packet.Packet}}
use Rattle.std.proofs.Common.{Bool, List, None, Option, Some, ap, arith, false, is_none, is_some, length, map, nat_lt, not, refl, replicate}
use Rattle.std.proofs.{Common.{slice_get, true, ℕ, ◌++◌, ◌+◌, ◌-◌, ◌<◌, ◌∙◌, ◌≡◌}, lemmas.{Bool.Decides.nat_tests, Option.slice_get_cases}}
use Rattle.std.specs.Option.{option_map}

-- a switch stands at the first places, and a terminal at those behind them
module _ {A : Type 0} where
  abbrev pub StandsAt : List (Node A) → ℕ → Bool → Type 0
  StandsAt nodes place switches = (n : Node A) × (slice_get nodes place ≡ Some n) × (is_switch n ≡ switches)

  stands : (nodes : List (Node A)) (place : ℕ) (switches : Bool) → place < length nodes → part false is_switch (slice_get nodes place) ≡ switches → StandsAt nodes place switches
  stands nodes place switches inside is = search (arith, slice_get_cases)

  pub switch_there : (a b : ℕ) (nodes : List (Node A)) → map is_switch nodes ≡ replicate a true ++ replicate b false → (place : ℕ) → place < a → StandsAt nodes place true
  switch_there a b nodes are place inside =
      let count = counted a b nodes are in
      let first : nat_lt place a ≡ true = grind (arith, nat_tests, inside) in
      stands nodes place true (omega (arith, count, inside)) (by_counts a b nodes are place ∙ first)

  pub terminal_there : (a b : ℕ) (nodes : List (Node A)) → map is_switch nodes ≡ replicate a true ++ replicate b false → (t place : ℕ) → place ≡ a + t → t < b → StandsAt nodes place false
  terminal_there a b nodes are t place is inside =
      let count = counted a b nodes are in
      let behind : nat_lt place a ≡ false = grind (arith, nat_tests, is) in
      stands nodes place false (omega (arith, count, is, inside)) (by_counts a b nodes are place ∙ behind)

-- what a fault that there isn't says
wired : (plan : Plan) (p : Port) (other : Option Port) → peer plan p ≡ other → wired_fault plan p ≡ None → wire_fault other ≡ None
wired plan p other is none = search (arith, past_link, past_node)

mapped : {X Y : Type 0} (f : X → Y) (o : Option X) → is_some (option_map f o) ≡ not (is_none o)
mapped f o = search arith

module _ {A : Type 0} (kind : Kind A) (net : Network A) where
  abbrev told : Event → Option (Reply × Network A) → Bool
  told e made = is_unready (outcome_if_ready kind net e made).0

  within : (r : ReplyOf A) (after : Network A) → is_ready r ≡ true → (limit : Option EventFault) → is_unready (outcome_within_limit kind net limit (plain_reply kind r, after)).0 ≡ false
  within r after ready limit = search arith

  -- an event is told to be unready where the step of its acts can't be made
  step_told : (e : Event) (acts : Acts A) (made : Option (ReplyOf A × List (Node A))) → acts_step kind net.plan net.nodes acts ≡ made → is_none made ≡ told e (told_step kind net made)
  step_told e acts made is = search (arith, within, acts_ready)

  -- acts that are asked: there is a reason exactly where their step can't be made
  record IsHindered (ask : Ask A) : Type 0 where
    acts : Acts A
    known : ask_acts net.plan ask ≡ Some acts
    why : is_some (acts_why net acts) ≡ is_none (acts_step kind net.plan net.nodes acts)

  abbrev IsHinderedAt : Option EventFault → Ask A → Type 0
  IsHinderedAt f ask = f ≡ None → IsHindered ask

  module _ (is_plan : IsPlan net.plan) (steady : IsSteady net) where
    over_hindered : (p : Port) (crossing : Crossing) → IsHinderedAt (wired_fault net.plan p) (Ask.Over p crossing)
    over_hindered p crossing none = by_peer (peer net.plan p) refl
      where
        by_peer : (other : Option Port) → peer net.plan p ≡ other → IsHindered (Ask.Over p crossing)
        by_peer None is = absurd (let no : wire_fault None ≡ None = wired net.plan p None is none in cc)
        by_peer (Some q) is = record { acts = Acts.Joint p q crossing; known = ap (crossing_acts crossing p) is; why = joint_told kind net.plan is_plan net.nodes steady.in_place crossing p q is }

    alone_hindered : (ask : Ask A) (k : ℕ) (a : ActOf A) → ask_acts net.plan ask ≡ Some (Acts.Alone k a) → (why : Node A → Option Unready) (f : Unready → Reason) → alone_why net k a ≡ option_map f (why_at net.nodes k why) → ((n : Node A) → is_none (why n) ≡ is_some (node_act kind (k - length net.plan.switches) a n)) → IsHindered ask
    alone_hindered ask k a known why f is here = search (arith, mapped, step_ready)

    -- a command and a packet that is sent always are ready
    control_ready : (s : ℕ) (bytes : List ℕ) → StandsAt net.nodes s true → IsHindered (Ask.Switch s (ActionOf.Control bytes))
    control_ready s bytes (Switch w, is, here) = record { acts = Acts.Alone s (ActOf.Step (ActionOf.Control bytes)); known = refl; why = rw is refl }
    control_ready s bytes (Terminal t, is, here) = absurd (cc here)

    send_ready : (t : ℕ) (packet : Packet) → StandsAt net.nodes (terminal_place net.plan t) false → IsHindered (Ask.Terminal t (ActOf.Send packet))
    send_ready t packet (Switch w, is, here) = absurd (cc here)
    send_ready t packet (Terminal n, is, here) = record { acts = Acts.Alone (terminal_place net.plan t) (ActOf.Send packet); known = refl; why = rw is refl }

    steps_hindered : AreCases net.plan IsHinderedAt
    steps_hindered = record {
      over = over_hindered;
      turn = λ s l word other none. alone_hindered (Ask.Switch s (ActionOf.Input l word)) s (ActOf.Step (ActionOf.Input l word)) refl (node_input_why l) (λ u. record { port = Port.Switch s l; unready = u }) refl (input_here kind l word (s - length net.plan.switches));
      claim = λ s i o other none. alone_hindered (Ask.Switch s (ActionOf.Claim i o)) s (ActOf.Step (ActionOf.Claim i o)) refl (node_claim_why i o) (claim_reason s i o) refl (claim_here kind i o (s - length net.plan.switches));
      control = λ s bytes other none. control_ready s bytes (switch_there (length net.plan.switches) (length net.plan.terminals) net.nodes steady.in_place s (node_there other (length net.plan.switches) s none));
      send = λ t packet other none. send_ready t packet (terminal_there (length net.plan.switches) (length net.plan.terminals) net.nodes steady.in_place t (terminal_place net.plan t) refl (node_there other (length net.plan.terminals) t none));
      drain = λ t other none. (let k : ℕ = terminal_place net.plan t in alone_hindered (Ask.Terminal t ActOf.Drain) k ActOf.Drain refl node_drain_why (λ u. record { port = Port.Terminal (k - length net.plan.switches); unready = u }) refl (drain_here kind (k - length net.plan.switches)));
    }

    possible : (e : Event) → event_fault net.plan e ≡ None → is_some (event_why net e) ≡ told e (network_step kind net e)
    possible e none =
        let found : IsHindered (event_ask e) = of_event net.plan IsHinderedAt steps_hindered e none in
        rw found.known (found.why ∙ step_told e found.acts (acts_step kind net.plan net.nodes found.acts) refl)

    pub unready_answered : (e : Event) → is_some (network_why net e) ≡ is_unready (network_apply kind net e).0
    unready_answered e = search (arith, possible)
