-- What an entry that leads tells: an act of its node alone, or what crosses the wire at one of its links.
use Rattle.c104_audit.{proofs.WideNodes.{IsWide, claim_there, input_there}, specs.Audits.{entry_event, is_link_wired, is_of_kind}}
use Rattle.{c104_event.specs.declared.events.Event.Event, c104_node.{proofs.IdleNodes.opposite, specs.ActLinks.on_links}}
use Rattle.c104_node.specs.{Acts.{IsWithinLimits, node_act}, Nodes.Node, PortActs.{Acts, near_act}, declared.acts.ActOf.ActOf}
use Rattle.{c104_node.specs.declared.crossings.Crossing.{Crossing, TheVariants.{Grant, Token as TokenCrossing}}, c104_plan.specs.Plans.Plan}
use Rattle.{c104_plan.specs.{Wiring.{peer, wires}, declared.ports.Port.Port}, c104_regs.specs.declared.registers.TheConstants.LINKS}
use Rattle.c104_run.specs.{EventActs.{act_event, crossing_event, event_acts, port_place}, EventPlaces.event_place, Network.event_fault}
use Rattle.{c104_run.specs.Network.terminal_place, c104_switch.specs.{Actions.Reply, declared.actions.ActionOf.ActionOf}}
use Rattle.{c104_token.specs.{Kinds.plain_kind, declared.{text.TheConstants.MAX_PACKET_BYTES, tokens.Token.Token}}, std.proofs.Common.Bool}
use Rattle.std.proofs.Common.{None, Option, Some, ap, arith, false, inl, is_some, length, nat_le, nat_lt, not, refl, sym, true, ℕ, ◌+◌, ◌-◌}
use Rattle.std.proofs.{Common.{◌<◌, ◌∙◌, ◌≡◌, ◌≤◌, ◌⊎◌}, lemmas.Bool.Decides.nat_tests}
use Rattle.c104_node.specs.declared.acts.ActOf.TheVariants as act

module _ (plan : Plan) where
  -- whether a link of the node at a place has a wire
  abbrev pub is_wired_link : ℕ → ℕ → Bool
  is_wired_link k l = is_link_wired (length plan.switches) (wires plan) k l

  -- the event of an act of the node at a place, if the act leads
  abbrev pub plan_event : ℕ → ActOf Token → Option Event
  plan_event k a = entry_event (length plan.switches) (wires plan) k a

  -- an act that is an event by itself
  pub record LeadsAlone (k : ℕ) (a : ActOf Token) : Type 0 where
    pub event : Event
    pub told : plan_event k a ≡ Some event
    pub acts : ◌≡◌ {A = Option (Acts Token)} (event_acts plan event) (Some (Acts.Alone k a))
    pub place : event_place plan event ≡ k
    -- where a node did it, no fault refuses the event
    pub possible : k < length plan.switches + length plan.terminals → (n : Node Token) (r : Reply × Node Token) → IsWide n → IsWithinLimits a → node_act plain_kind 0 a n ≡ Some r → event_fault plan event ≡ None

  -- an act of which the other half is at the other end of a wire
  pub record LeadsJoint (k : ℕ) (a : ActOf Token) : Type 0 where
    pub near : Port
    pub far : Port
    pub crossing : Crossing
    pub wired : peer plan near ≡ Some far
    pub place : port_place plan near ≡ k
    pub is : a ≡ near_act crossing near
    pub told : plan_event k a ≡ Some (crossing_event crossing near)

  -- an act that stands for an event is of its node's kind, and over no link without a wire
  pub record StandsFor (k : ℕ) (a : ActOf Token) : Type 0 where
    pub kind : is_of_kind (nat_lt k (length plan.switches)) a ≡ true
    pub linked : on_links (is_wired_link k) a ≡ true
    pub told : plan_event k a ≡ act_event (length plan.switches) k a

  pub stands_for : (k : ℕ) (a : ActOf Token) → is_some (plan_event k a) ≡ true → StandsFor k a
  stands_for k a leads = search arith

  pub terminal_there : (k : ℕ) → not (nat_lt k (length plan.switches)) ≡ true → (nat_lt k (length plan.switches) ≡ false) × (terminal_place plan (k - length plan.switches) ≡ k)
  terminal_there k is = let past : nat_lt k (length plan.switches) ≡ false = opposite (nat_lt k (length plan.switches)) is in (past, grind (arith, nat_tests))

  below : (k count : ℕ) → k < count → nat_lt k count ≡ true
  below k count less = grind (arith, nat_tests)

  terminal_inside : (k : ℕ) → terminal_place plan (k - length plan.switches) ≡ k → k < length plan.switches + length plan.terminals → nat_lt (k - length plan.switches) (length plan.terminals) ≡ true
  terminal_inside k at inside = below (k - length plan.switches) (length plan.terminals) (omega (arith, at, inside))

  short_enough : (n : ℕ) → n ≤ MAX_PACKET_BYTES → nat_le n MAX_PACKET_BYTES ≡ true
  short_enough n short = grind (arith, nat_tests)

  -- where a port has a wire, it has another end
  joint : (k : ℕ) (a : ActOf Token) (crossing : Crossing) (p : Port) → a ≡ near_act crossing p → port_place plan p ≡ k → plan_event k a ≡ Some (crossing_event crossing p) → is_some (peer plan p) ≡ true → LeadsAlone k a ⊎ LeadsJoint k a
  joint k a crossing p is place told wired = search arith

  pub switch_wired : (k l : ℕ) → nat_lt k (length plan.switches) ≡ true → is_wired_link k l ≡ true → is_some (peer plan (Port.Switch k l)) ≡ true
  switch_wired k l here is = sym (rw here refl) ∙ is

  pub terminal_wired : (k : ℕ) → nat_lt k (length plan.switches) ≡ false → is_wired_link k 0 ≡ true → is_some (peer plan (Port.Terminal (k - length plan.switches))) ≡ true
  terminal_wired k past is = sym (rw past refl) ∙ is

  -- an act that leads in no event leads in none
  leads_none : (k : ℕ) (a : ActOf Token) → act_event (length plan.switches) k a ≡ None → is_some (plan_event k a) ≡ true → ⊥
  leads_none k a none leads = let no : false ≡ true = sym (ap is_some ((stands_for k a leads).told ∙ none)) ∙ leads in cc

  -- an act that leads is an event by itself, or it is what crosses the wire at a port of its node
  pub lead_cases : (k : ℕ) (a : ActOf Token) → is_some (plan_event k a) ≡ true → LeadsAlone k a ⊎ LeadsJoint k a
  lead_cases k (act.Step (ActionOf.Leave l)) leads = let s = stands_for k (act.Step (ActionOf.Leave l)) leads in joint k (act.Step (ActionOf.Leave l)) TokenCrossing (Port.Switch k l) refl refl s.told (switch_wired k l s.kind s.linked)
  lead_cases k (act.Step (ActionOf.CreditOut l)) leads = let s = stands_for k (act.Step (ActionOf.CreditOut l)) leads in joint k (act.Step (ActionOf.CreditOut l)) Grant (Port.Switch k l) refl refl s.told (switch_wired k l s.kind s.linked)
  lead_cases k (act.Step (ActionOf.Input l word)) leads =
      let s = stands_for k (act.Step (ActionOf.Input l word)) leads in
      inl (record {
        event = Event.Input k l word;
        told = s.told;
        acts = refl;
        place = refl;
        possible = λ inside n r wide short made. rw (s.kind, below l LINKS (input_there 0 n l word r wide made)) refl;
      })
  lead_cases k (act.Step (ActionOf.Claim i o)) leads =
      let s = stands_for k (act.Step (ActionOf.Claim i o)) leads in
      inl (record {
        event = Event.Claim k i o;
        told = s.told;
        acts = refl;
        place = refl;
        possible = λ inside n r wide short made. let there = claim_there 0 n i o r wide made in rw (s.kind, below i LINKS there.0, below o LINKS there.1) refl;
      })
  lead_cases k (act.Step (ActionOf.Control bytes)) leads = search (arith, stands_for)
  lead_cases k (act.Send packet) leads = search (arith, stands_for, terminal_there, terminal_inside, short_enough)
  lead_cases k act.Drain leads = search (arith, stands_for, terminal_there, terminal_inside)
  lead_cases k act.Leave leads = search (arith, stands_for, terminal_there, joint, terminal_wired)
  lead_cases k act.CreditOut leads = search (arith, stands_for, terminal_there, joint, terminal_wired)
  lead_cases k a leads = absurd (leads_none k a refl leads)
