-- The places of an event's nodes are the network's, the lower first.
use Rattle.{c104_event.specs.declared.events.Event.Event, c104_node.specs.{PortActs.Acts, declared.acts.ActOf.ActOf}}
use Rattle.{c104_node.specs.declared.crossings.Crossing.Crossing, c104_plan.{proofs.Wires.wiring, specs.Plans.{IsPlan, Plan}}}
use Rattle.{c104_plan.specs.{Wiring.{IsPlanPort, peer}, declared.ports.Port.Port}, c104_run.proofs.NoFaults.node_there}
use Rattle.c104_run.specs.{AskedActs.{AreEnds, acts_asked}, EventActs.{crossing_acts, event_acts, port_place}, NetParts.node_count}
use Rattle.{c104_run.specs.{Network.event_fault, declared.asked.Asked.Asked}, c104_token.specs.declared.tokens.Token.Token}
use Rattle.{c104_node.specs.declared.crossings.Joint.Joint, c104_workers.specs.Held.{AsksNode, AsksPair}}
use Rattle.{c104_workers.specs.LentCalls.{AreBelow, AreLentFor, acts_places, asked_places, event_places}, std.proofs.Common.{Bool, None, Option, Some}}
use Rattle.std.proofs.{Common.{ap, arith, false, length, nat_lt, option_map, refl, subst, sym, true, unwrap_or, ℕ, ◌+◌, ◌<◌, ◌∙◌, ◌≡◌, ◌≢◌}, lemmas.Bool.Decides.nat_tests}
use Rattle.std.specs.Prelude.{if◌then◌else◌}

-- an event of one node isn't about a wire
pub no_crossing : (crossing : Crossing) (p : Port) (o : Option Port) (k : ℕ) (a : ActOf Token) → crossing_acts crossing p o ≡ Some (Acts.Alone k a) → ⊥
no_crossing crossing p None k a is = absurd (cc is)
no_crossing crossing p (Some q) k a is = absurd (cc is)

-- the place and the act of an event of one node
pub same_place : (j k : ℕ) (b a : ActOf Token) → ◌≡◌ {A = Option (Acts Token)} (Some (Acts.Alone j b)) (Some (Acts.Alone k a)) → j ≡ k
same_place j k b a is = cc is

pub same_act : (j k : ℕ) (b a : ActOf Token) → ◌≡◌ {A = Option (Acts Token)} (Some (Acts.Alone j b)) (Some (Acts.Alone k a)) → b ≡ a
same_act j k b a is = cc is

module _ (plan : Plan) where
  -- a switch's place, and a terminal's
  switch_below : (s k : ℕ) → s ≡ k → s < length plan.switches → k < node_count plan
  switch_below s k is below = omega (arith, is, below)

  terminal_below : (t k : ℕ) → length plan.switches + t ≡ k → t < length plan.terminals → k < node_count plan
  terminal_below t k is below = omega (arith, is, below)

  alone_below : (e : Event) (k : ℕ) (a : ActOf Token) → event_fault plan e ≡ None → event_acts plan e ≡ Some (Acts.Alone k a) → k < node_count plan
  alone_below (Event.Cross p) k a fault is = absurd (no_crossing Crossing.Token p (peer plan p) k a is)
  alone_below (Event.Credit p) k a fault is = absurd (no_crossing Crossing.Grant p (peer plan p) k a is)
  alone_below (Event.Input s l word) k a fault is = switch_below s k (same_place s k _ a is) (node_there _ (length plan.switches) s fault)
  alone_below (Event.Claim s i o) k a fault is = switch_below s k (same_place s k _ a is) (node_there _ (length plan.switches) s fault)
  alone_below (Event.Control s bytes) k a fault is = switch_below s k (same_place s k _ a is) (node_there _ (length plan.switches) s fault)
  alone_below (Event.Send t packet) k a fault is = terminal_below t k (same_place (length plan.switches + t) k _ a is) (node_there _ (length plan.terminals) t fault)
  alone_below (Event.Drain t) k a fault is = terminal_below t k (same_place (length plan.switches + t) k _ a is) (node_there _ (length plan.terminals) t fault)

  port_below : (p : Port) → IsPlanPort plan p → port_place plan p < node_count plan
  port_below (Port.Switch s l) inside = switch_below s s refl inside.0
  port_below (Port.Terminal t) inside = terminal_below t (length plan.switches + t) refl inside

  -- two different places, the lower first
  in_order : (n near far : ℕ) → near ≢ far → near < n → far < n → AreBelow n (if nat_lt near far then (near, Some far) else (far, Some near))
  in_order n near far apart near_below far_below = by_test (nat_lt near far) refl
    where
      by_test : (b : Bool) → nat_lt near far ≡ b → AreBelow n (if b then (near, Some far) else (far, Some near))
      by_test true is = (grind (arith, nat_tests), far_below)
      by_test false is = (grind (arith, nat_tests, apart), near_below)

  -- what is known of the places of an event
  pub record Placed (e : Event) (places : ℕ × Option ℕ) : Type 0 where
    pub are : event_places plan e ≡ Some places
    pub lent : AreLentFor (event_acts plan e) places.1
    pub inside : AreBelow (node_count plan) places

  abbrev ordered : Bool → ℕ → ℕ → ℕ × Option ℕ
  ordered b near far = if b then (near, Some far) else (far, Some near)

  both_lent : (b : Bool) (p q : Port) (crossing : Crossing) (near far : ℕ) → AreLentFor (Some (Acts.Joint p q crossing)) (ordered b near far).1
  both_lent true p q crossing near far = tt
  both_lent false p q crossing near far = tt

  pub placed : IsPlan plan → (e : Event) (ask : Asked Token) → event_fault plan e ≡ None → event_acts plan e ≡ Some (acts_asked ask) → AreEnds plan ask → Placed e (asked_places ask)
  placed is_plan e (Asked.Alone k a) fault acts ends = record {
    are = rw acts refl;
    lent = rw acts tt;
    inside = alone_below e k a fault acts;
  }
  placed is_plan e (Asked.Send k packet) fault acts ends = record {
    are = rw acts refl;
    lent = rw acts tt;
    inside = alone_below e k (ActOf.Send packet.now) fault acts;
  }
  placed is_plan e (Asked.Joint near far joint) fault acts ends =
      let wires = wiring plan is_plan in
      let near_below : near < node_count plan = subst (λ k. k < node_count plan) (sym ends.0) (port_below joint.near (wires.inside joint.near joint.far ends.3)) in
      let far_below : far < node_count plan = subst (λ k. k < node_count plan) (sym ends.1) (port_below joint.far (wires.inside joint.far joint.near (wires.back joint.near joint.far ends.3))) in
      record {
        are = rw (acts, sym ends.0, sym ends.1) refl;
        lent = rw acts (both_lent (nat_lt near far) joint.near joint.far joint.crossing near far);
        inside = in_order (node_count plan) near far ends.2 near_below far_below;
      }

  -- an event of one node is that of the node at its place
  pub node_asked : (e : Event) (k place held : ℕ) (a : ActOf Token) → event_fault plan e ≡ None → ◌≡◌ {A = Option (Acts Token)} (event_acts plan e) (Some (Acts.Alone k a)) → event_places plan e ≡ Some (place, None) → held ≡ place → AsksNode plan e held a
  node_asked e k place held a fault acts places is =
      let both : ◌≡◌ {A = Option (ℕ × Option ℕ)} (Some (k, None)) (Some (place, None)) = sym (ap (option_map (acts_places plan)) acts) ∙ places in
      let same : k ≡ held = ap (λ (o : Option (ℕ × Option ℕ)). (unwrap_or o (0, None)).0) both ∙ sym is in
      (fault, subst (λ j. ◌≡◌ {A = Option (Acts Token)} (event_acts plan e) (Some (Acts.Alone j a))) same acts)

  -- and one of two nodes that of the nodes at the two places
  pub pair_asked : (e : Event) (joint : Joint) (near far near_held far_held : ℕ) → event_fault plan e ≡ None → ◌≡◌ {A = Option (Acts Token)} (event_acts plan e) (Some (Acts.Joint joint.near joint.far joint.crossing))
      → near ≡ port_place plan joint.near → far ≡ port_place plan joint.far → near_held ≡ near → far_held ≡ far → near ≢ far → AsksPair plan e joint near_held far_held
  pair_asked e joint near far near_held far_held fault acts near_end far_end near_is far_is apart =
      (fault, acts, near_is ∙ near_end, far_is ∙ far_end, λ same. apart (sym near_is ∙ same ∙ far_is))
