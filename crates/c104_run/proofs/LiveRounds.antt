-- Rounds over sets of places: what is passed over does nothing, and what an event may begin is in the set after it.
use Rattle.{c104_event.specs.declared.{events.Event.Event, faults.EventFault.EventFault}, c104_node.proofs.IdleNodes.idle_by}
use Rattle.c104_node.{proofs.IdleNodes.{unclaimed_there, unready_there}, specs.{Acts.{node_act, nodes_act}, Idle.IsIdleNode, Nodes.Node}}
use Rattle.c104_node.specs.{Nodes.node_claim, PlaceActs.ActsEnd, PortActs.near_act, PortParts.{is_node_ready, part_act}, Records.has_link}
use Rattle.c104_node.specs.declared.{acts.ActOf.ActOf, crossings.Crossing.{Crossing, TheVariants.{Grant, Token}}, node.NodeOf.NodeOf}
use Rattle.{c104_node.specs.declared.port_part.PortPart.{PortPart, TheVariants.{Credit, Cross, Turn}}, c104_plan.specs.Plans.{IsPlan, Plan}}
use Rattle.{c104_plan.specs.{Wiring.IsPlanPort, declared.ports.Port.Port}, c104_run.proofs.HandedWords.unready_word}
use Rattle.c104_run.proofs.{IdleEvents.{idle_credit, idle_cross, idle_drain, idle_links, idle_outputs, port_inside}, PortWalks.idle_link}
use Rattle.c104_run.{proofs.{PortWalks.idle_wired, WiredPorts.{has_wire, wire_there}}, specs.EventActs.port_place}
use Rattle.c104_run.specs.{KnownWires.is_linked_end, LivePlaces.{AreLive, IsIdlePlace, IsOfRound, is_live}, Network.Network}
use Rattle.c104_run.specs.{Network.{terminal_place, wired_fault}, RoundParts.{AreIdle, input_walk, link_walk, port_walk}, Rounds.is_wired}
use Rattle.{c104_switch.specs.declared.actions.{ActionOf.ActionOf, ReplyOf.ReplyOf}, c104_token.specs.Kinds.Kind, std.proofs.Common.Bool}
use Rattle.std.proofs.Common.{List, None, Option, Result, Some, [], ap, arith, false, inl, inr, is_some, length, nat_lt, refl, slice_get}
use Rattle.std.proofs.{Common.{subst, sym, true, ℕ, ◌-◌, ◌<◌, ◌∙◌, ◌∷◌, ◌≡◌, ◌≢◌}, lemmas.Bool.{Decides.nat_tests, cases_eq}}

module _ {A : Type 0} (kind : Kind A) (plan : Plan) where
  -- where all places are in the set, nothing is said of any node
  pub live_all : (blocks : List ℕ) (nodes : List (Node A)) → IsPlan plan → ((k : ℕ) → is_live blocks k ≡ true) → AreLive kind plan blocks nodes
  live_all blocks nodes is_plan all = record { planned = is_plan; idle = λ k none. absurd (let both : true ≡ false = sym (all k) ∙ none in cc) }

  -- the nodes of places that are in no set have stayed
  live_on : (blocks more : List ℕ) (olds news : List (Node A)) → AreLive kind plan blocks olds → ((k : ℕ) → is_live more k ≡ false → (is_live blocks k ≡ false) × (slice_get news k ≡ slice_get olds k)) → AreLive kind plan more news
  live_on blocks more olds news live stays = record {
    planned = live.planned;
    idle = λ k none. record { planned = live.planned; idle = λ n here. (live.idle k (stays k none).0).idle n (sym (stays k none).1 ∙ here) };
  }

  -- where a place was put into the set, what isn't in it is another, which wasn't
  added : (blocks more : List ℕ) (place : ℕ) → is_live more place ≡ true → ((k : ℕ) → k ≢ place → is_live more k ≡ is_live blocks k) → (j : ℕ) → is_live more j ≡ false → (j ≢ place) × (is_live blocks j ≡ false)
  added blocks more place here others j none = search arith

  -- an act at a place, where nothing changes unless the place is in the set
  pub live_alone : (blocks : List ℕ) (olds news : List (Node A)) (k : ℕ) → ((j : ℕ) → j ≢ k → slice_get news j ≡ slice_get olds j) → (is_live blocks k ≡ false → news ≡ olds) → AreLive kind plan blocks olds → AreLive kind plan blocks news
  live_alone blocks olds news k stays idle live =
      live_on blocks blocks olds news live
      (λ j none. (
        none,
        elim (cases_eq j k) [
          | inl same ↦ ap (λ ns. slice_get ns j) (idle (subst (λ i. is_live blocks i ≡ false) same none))
          | inr other ↦ stays j other
        ],
      ))

  -- acts at two places, of which the first is in the set and the other was put into it
  pub live_joint : (blocks more : List ℕ) (olds news : List (Node A)) (near far : ℕ) → is_live blocks near ≡ true → is_live more far ≡ true → ((k : ℕ) → k ≢ far → is_live more k ≡ is_live blocks k) →
      ((j : ℕ) → j ≢ near → j ≢ far → slice_get news j ≡ slice_get olds j) → AreLive kind plan blocks olds → AreLive kind plan more news
  live_joint blocks more olds news near far from here others stays live =
      live_on blocks more olds news live
      (λ j none. let new = added blocks more far here others j none in (new.1, stays j (λ same. absurd (let both : true ≡ false = sym from ∙ ap (is_live blocks) (sym same) ∙ new.1 in cc)) new.0))

  -- a place is taken out at which nothing can begin
  pub live_less : (blocks less : List ℕ) (nodes : List (Node A)) (place links : ℕ) → ((k : ℕ) → k ≢ place → is_live less k ≡ is_live blocks k) → ((n : Node A) → slice_get nodes place ≡ Some n → IsIdleNode kind (has_link links) n) →
      ((l : ℕ) → has_link links l ≡ is_linked_end plan place l) → AreLive kind plan blocks nodes → AreLive kind plan less nodes
  live_less blocks less nodes place links others idle same live = record {
    planned = live.planned;
    idle = λ k none.
        elim (cases_eq k place) [
          | inl is ↦ record {
            planned = live.planned;
            idle = λ n here. subst (λ j. IsIdleNode kind (is_linked_end plan j) n) (sym is) (idle_by kind n (has_link links) (is_linked_end plan place) same (idle n (ap (slice_get nodes) (sym is) ∙ here)));
          }
          | inr other ↦ live.idle k (sym (others k other) ∙ none)
        ];
  }

-- what is passed over does nothing
module _ {A : Type 0} (kind : Kind A) (net : Network A) where
  -- at a switch that is ready for no act of a part, and none of whose inputs claims an output
  module _ (k : ℕ) (inside : k < length net.plan.switches) where
    pub unready_ports : IsPlan net.plan → (part : PortPart) → ((n : Node A) → slice_get net.nodes k ≡ Some n → (l : ℕ) → l < 32 → is_wired net.plan (Port.Switch k l) ≡ true → is_node_ready kind part l n ≡ false) → AreIdle kind net (link_walk net.plan part k)
    unready_ports planned part none = search (arith, idle_links, idle_wired, idle_link, has_wire, unready_there)

    pub unclaimed_inputs : ((n : Node A) → slice_get net.nodes k ≡ Some n → (i o : ℕ) → i < 32 → node_claim i o n ≡ None) → AreIdle kind net (input_walk k)
    unclaimed_inputs none = search (arith, idle_links, idle_outputs, unclaimed_there)

  -- at one where nothing can begin
  module _ (k : ℕ) (inside : k < length net.plan.switches) (passed : IsIdlePlace kind net.plan net.nodes k) where
    linked_switch : (l : ℕ) → is_wired net.plan (Port.Switch k l) ≡ true → is_linked_end net.plan k l ≡ true
    linked_switch l is = let here : nat_lt k (length net.plan.switches) ≡ true = grind (arith, nat_tests) in rw here is

    pub idle_part : (part : PortPart) (n : Node A) → slice_get net.nodes k ≡ Some n → (l : ℕ) → l < 32 → is_wired net.plan (Port.Switch k l) ≡ true → is_node_ready kind part l n ≡ false
    idle_part part n here l below is = (passed.idle n here).links part l (linked_switch l is)

    pub idle_ports : (part : PortPart) → AreIdle kind net (link_walk net.plan part k)
    idle_ports part = unready_ports k inside passed.planned part (idle_part part)

  -- at a terminal
  module _ (t : ℕ) (inside : t < length net.plan.terminals) (passed : IsIdlePlace kind net.plan net.nodes (terminal_place net.plan t)) where
    pub idle_terminal : (part : PortPart) → AreIdle kind net (port_walk net.plan part Port.Terminal t)
    idle_terminal part = search (arith, idle_wired, idle_credit, has_wire, unready_there, idle_cross)

    pub idle_arrival : AreIdle kind net (Event.Drain t ∷ [])
    idle_arrival = idle_drain kind net t inside
        (unready_there kind net.nodes (terminal_place net.plan t) (terminal_place net.plan t - length net.plan.switches) ActOf.Drain (λ n here. (passed.idle n here).drains (terminal_place net.plan t - length net.plan.switches)))

-- what the nodes at places that are in no set aren't ready for
module _ {A : Type 0} (kind : Kind A) (plan : Plan) (blocks : List ℕ) (nodes : List (Node A)) (live : AreLive kind plan blocks nodes) where
  -- what would cross from there
  unready_near : (p : Port) (crossing : Crossing) → IsPlanPort plan p → is_wired plan p ≡ true → IsIdlePlace kind plan nodes (port_place plan p) → is_some (nodes_act kind nodes (port_place plan p) 0 (near_act crossing p)) ≡ false
  unready_near (Port.Switch s l) crossing inside is passed = by_crossing crossing
    where
      linked : is_linked_end plan s l ≡ true
      linked = let below : s < length plan.switches = inside.0 in let here : nat_lt s (length plan.switches) ≡ true = grind (arith, nat_tests) in rw here is

      by_crossing : (crossing : Crossing) → is_some (nodes_act kind nodes s 0 (near_act crossing (Port.Switch s l))) ≡ false
      by_crossing Token = unready_there kind nodes s 0 (part_act Cross l) (λ n here. (passed.idle n here).links Cross l linked)
      by_crossing Grant = unready_there kind nodes s 0 (part_act Credit l) (λ n here. (passed.idle n here).links Credit l linked)
  unready_near (Port.Terminal t) Token inside is passed = unready_there kind nodes (terminal_place plan t) 0 ActOf.Leave (λ n here. (passed.idle n here).leaves)
  unready_near (Port.Terminal t) Grant inside is passed = unready_there kind nodes (terminal_place plan t) 0 ActOf.CreditOut (λ n here. (passed.idle n here).grants)

  -- so where it is ready its place is in the set
  pub ready_live : (p : Port) (crossing : Crossing) → wired_fault plan p ≡ None → is_some (nodes_act kind nodes (port_place plan p) 0 (near_act crossing p)) ≡ true → is_live blocks (port_place plan p) ≡ true
  ready_live p crossing possible ready = search (arith, unready_near, port_inside, wire_there)

  -- an act of a round; then nothing changes
  pub idle_stays : (k : ℕ) (a : ActOf A) → IsOfRound kind plan k a → (limit : Option EventFault) (full : Bool) (answer : Result (ReplyOf A) EventFault) (after : List (Node A)) → ActsEnd limit (nodes_act kind nodes k (k - length plan.switches) a) full nodes answer after →
      is_live blocks k ≡ false → after ≡ nodes
  idle_stays k a begins limit full answer after ends none = search (arith, unready_there)

-- the turns, claims and arrivals of a round
module _ {A : Type 0} (kind : Kind A) (plan : Plan) where
  pub turn_begins : (s l word : ℕ) → wired_fault plan (Port.Switch s l) ≡ None → IsOfRound {A = A} kind plan s (ActOf.Step (ActionOf.Input l word))
  turn_begins s l word possible n idle = unready_word kind 0 word 0 (s - length plan.switches) l n (by_node n (idle.links Turn l linked))
    where
      linked : is_linked_end plan s l ≡ true
      linked =
          let below : s < length plan.switches = (port_inside plan (Port.Switch s l) possible).0 in
          let here : nat_lt s (length plan.switches) ≡ true = grind (arith, nat_tests) in rw here (wire_there plan (Port.Switch s l) possible)

      by_node : (n : Node A) → is_some (node_act kind 0 (part_act Turn l) n) ≡ false → is_some (node_act kind 0 (ActOf.Step (ActionOf.Input l 0)) n) ≡ false
      by_node (NodeOf.Switch here) is = is
      by_node (NodeOf.Terminal here) is = refl

  pub claim_begins : (s i o : ℕ) → i < 32 → IsOfRound {A = A} kind plan s (ActOf.Step (ActionOf.Claim i o))
  claim_begins s i o input n idle = by_node n (idle.claims i o input)
    where
      by_node : (n : Node A) → node_claim i o n ≡ None → is_some (node_act kind (s - length plan.switches) (ActOf.Step (ActionOf.Claim i o)) n) ≡ false
      by_node (NodeOf.Switch here) is = rw is refl
      by_node (NodeOf.Terminal here) is = refl

  pub drain_begins : (k : ℕ) → IsOfRound {A = A} kind plan k ActOf.Drain
  drain_begins k n idle = idle.drains (k - length plan.switches)
