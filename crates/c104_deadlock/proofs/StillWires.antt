-- What each event of a round says that isn't ready, in a network whose switches are started.
use Rattle.{c104_deadlock.proofs.StillEvents.IsStill, c104_event.specs.declared.events.Event.Event, c104_link.specs.Buffers.Incoming}
use Rattle.{c104_link.specs.Buffers.Outgoing, c104_net.proofs.{Members.element_at, NodeViews.{ins, outs, phases}}}
use Rattle.{c104_node.specs.{Nodes.Node, Terminals.Terminal, declared.node.NodeOf.NodeOf}, c104_plan.specs.Plans.{IsPlan, Plan}}
use Rattle.{c104_plan.specs.{Wiring.peer, declared.ports.Port.Port}, c104_run.proofs.BalanceWires.{peer_back, switch_inside}}
use Rattle.c104_run.proofs.{BalanceWires.terminal_inside, EventReasons.event_reason_holds, UnreadyEvents.{StandsAt, switch_there}}
use Rattle.c104_run.{proofs.UnreadyEvents.{terminal_there, unready_answered}, specs.Balance.{IsSteady, credit_at, granted_at}}
use Rattle.c104_run.specs.{Ends.end_of, Network.{network_of, terminal_place}, ReasonMeanings.{IsCreditInReason, IsCreditOutReason}}
use Rattle.c104_run.specs.{ReasonMeanings.{IsEnterReason, IsEventReason, IsLeaveReason, IsSaidAt}, Reasons.{is_unready, network_why}}
use Rattle.c104_run.specs.{Standstill.{IsStarted, IsStartedSwitch, IsUnready}, declared.reason.Reason.Reason}
use Rattle.c104_switch.specs.{Group.is_in_group, ReasonMeanings.{IsGrantReason, IsReason}, Switch.{Input, Switch}}
use Rattle.c104_switch.specs.declared.{actions.ActionOf.ActionOf, phase.Phase.TheVariants.{Stream, Want}}
use Rattle.{c104_switch.specs.declared.unready.Unready.{TheVariants.NoRoom, Unready}, c104_token.specs.Kinds.Kind, std.proofs.Common.IfSome}
use Rattle.std.proofs.Common.{List, None, Option, Some, [], ap, arith, false, inl, inr, is_some, length, refl, slice_get, subst, sym, true}
use Rattle.std.proofs.{Common.{ℕ, ⊎_elim, ◌+◌, ◌<◌, ◌∙◌, ◌∷◌, ◌≡◌, ◌≤◌, ◌⊎◌}, lemmas.{Bool.true≢false, Option.slice_get_within}}

-- what is said of a link that there is
module _ {A : Type 0} (S : Switch A) (started : IsStartedSwitch S) where
  module _ (l : ℕ) (p : Input A) (is_input : slice_get S.inputs l ≡ Some p) where
    within : length S.inputs ≤ l → ⊥
    within h = omega (arith, h, slice_get_within S.inputs l p is_input)

    pub no_grant : (u : Unready) → IsReason S (ActionOf.CreditOut l) u → p.buffer.cap < length p.buffer.items + p.buffer.granted + 8
    no_grant u r = search (arith, within, true≢false)

    pub no_entry : (x : A) (u : Unready) → IsReason S (ActionOf.Enter l x) u → p.buffer.granted ≡ 0
    no_entry x u r = search (arith, within)

  module _ (l : ℕ) (q : Outgoing A) (is_output : slice_get S.outputs l ≡ Some q) where
    beyond : length S.outputs ≤ l → ⊥
    beyond h = omega (arith, h, slice_get_within S.outputs l q is_output)

    no_credit : (u : Unready) → IsReason S (ActionOf.CreditIn l) u → 64 < q.credit + 8
    no_credit u r = search (arith, beyond)

    pub no_leave : (u : Unready) → IsReason S (ActionOf.Leave l) u → 0 < q.credit → q.items ≡ []
    no_leave u r some = search (arith, beyond)

  -- an input that takes no turn
  abbrev pub IsStuck : ℕ → Input A → Type 0
  IsStuck l p =
      (p.buffer.items ≡ [])
      ⊎ (((b : List A) × (g : ℕ) × (p.phase ≡ Want b g))
      ⊎ ((o : ℕ) × (p.phase ≡ Stream o) × ((q : Outgoing A) → slice_get S.outputs o ≡ Some q → 8 ≤ length q.items)))

  no_turn : (l : ℕ) (p : Input A) (is_input : slice_get S.inputs l ≡ Some p) → l < 32 → (u : Unready) → IsReason S (ActionOf.Input l 0) u → IsStuck l p
  no_turn l p is_input below u r = grind arith

  -- an input that wants a link with room gets it, unless another input has it
  pub no_claim : (i g o : ℕ) (b : List A) (p : Input A) (q : Outgoing A) → slice_get S.inputs i ≡ Some p → slice_get S.outputs o ≡ Some q → o < 32 → p.phase ≡ Want b g → is_in_group S.settings g o ≡ true → q.items ≡ [] → length b ≤ 8 → (u : Unready) → IsReason S (ActionOf.Claim i o) u → (k : ℕ) × (owner : Input A) × (slice_get S.inputs k ≡ Some owner) × (owner.phase ≡ Stream o)
  no_claim i g o b p q is_input is_output below wants group none few u r = search (arith, within, beyond, true≢false)

module _ {A : Type 0} (kind : Kind A) (plan : Plan) (is_plan : IsPlan plan) (nodes : List (Node A)) (steady : IsSteady (network_of plan nodes)) (started : IsStarted (network_of plan nodes)) (still : IsStill kind (network_of plan nodes)) where
  -- an event that isn't ready has its reason
  reason_of : (e : Event) → IsUnready kind (network_of plan nodes) e → (r : Reason) × IsEventReason (network_of plan nodes) e r
  reason_of e is = by_why (network_why (network_of plan nodes) e) refl
    where
      by_why : (why : Option Reason) → network_why (network_of plan nodes) e ≡ why → (r : Reason) × IsEventReason (network_of plan nodes) e r
      by_why None k = absurd (true≢false (sym (ap is_unready is) ∙ sym (unready_answered kind (network_of plan nodes) is_plan steady e) ∙ ap is_some k))
      by_why (Some r) k = (r, subst (λ o. IfSome o (IsEventReason (network_of plan nodes) e)) k (event_reason_holds (network_of plan nodes) e))

  -- a switch's link with a wire, and its two sides
  record LinkAt (s l : ℕ) : Type 0 where
    switch : Switch A
    here : slice_get nodes s ≡ Some (NodeOf.Switch switch)
    started_is : IsStartedSwitch switch
    below : l < 32
    inside : s < length plan.switches
    input : Input A
    input_is : slice_get switch.inputs l ≡ Some input
    output : Outgoing A
    output_is : slice_get switch.outputs l ≡ Some output

  link_at : (s l : ℕ) (Q : Port) → peer plan (Port.Switch s l) ≡ Some Q → LinkAt s l
  link_at s l Q wired =
      let within = switch_inside plan is_plan s l Q wired in
      by_node within.0 within.1 (switch_there (length plan.switches) (length plan.terminals) nodes steady.in_place s within.0)
    where
      by_node : s < length plan.switches → l < 32 → StandsAt nodes s true → LinkAt s l
      by_node inside below (NodeOf.Terminal T, e, k) = absurd (cc k)
      by_node inside below (NodeOf.Switch S, e, k) =
          let ok : IsStartedSwitch S = started s (NodeOf.Switch S) e in
          let p = element_at S.inputs l (omega (arith, below, ok.inputs)) in
          let q = element_at S.outputs l (omega (arith, below, ok.outputs)) in
          record { switch = S; here = e; started_is = ok; below = below; inside = inside; input = p.0; input_is = p.1; output = q.0; output_is = q.1 }

  terminal_at : (t : ℕ) (Q : Port) → peer plan (Port.Terminal t) ≡ Some Q → (T : Terminal A) × (slice_get nodes (terminal_place plan t) ≡ Some (NodeOf.Terminal T))
  terminal_at t Q wired = by_node (terminal_there (length plan.switches) (length plan.terminals) nodes steady.in_place t (terminal_place plan t) refl (terminal_inside plan is_plan t Q wired))
    where
      by_node : StandsAt nodes (terminal_place plan t) false → (T : Terminal A) × (slice_get nodes (terminal_place plan t) ≡ Some (NodeOf.Terminal T))
      by_node (NodeOf.Switch S, e, k) = absurd (cc k)
      by_node (NodeOf.Terminal T, e, k) = (T, e)

  -- an input that holds nothing and grants nothing more has granted already
  granted_some : (Q P : Port) (c : ℕ) (u : Unready) → peer plan Q ≡ Some P → granted_at nodes (end_of plan Q) ≡ Some c → ins plan nodes Q ≡ [] → IsSaidAt (network_of plan nodes) IsCreditOutReason Q u → 0 < c
  granted_some (Port.Switch s l) P c u wired grants none said = search (arith, link_at, no_grant)
  granted_some (Port.Terminal t) P c u wired grants none said =
      let k = terminal_at t P wired in
      let e : Some k.0.input.granted ≡ Some c = sym (rw k.1 refl) ∙ grants in
      let d : k.0.input.granted ≡ c = cc in
      let see : ins plan nodes (Port.Terminal t) ≡ k.0.input.items = rw k.1 refl in
      let empty : k.0.input.items ≡ [] = sym see ∙ none in
      let full : k.0.input.cap < length k.0.input.items + k.0.input.granted + 8 = full_of k.0.input u (rw k.1 at said) in
      let over : k.0.input.cap < 0 + k.0.input.granted + 8 = rw empty at full in
      omega (arith, over, d, started (terminal_place plan t) (NodeOf.Terminal k.0) k.1)
    where
      full_of : (b : Incoming A) (u : Unready) → IsGrantReason b u → b.cap < length b.items + b.granted + 8
      full_of b NoRoom r = r
      full_of b u r = absurd r

  -- and so has one whose far end takes no more
  credit_some : (P Q : Port) (c : ℕ) (u : Unready) → peer plan P ≡ Some Q → credit_at nodes (end_of plan P) ≡ Some c → IsSaidAt (network_of plan nodes) IsCreditInReason P u → 0 < c
  credit_some P Q c u wired has said = search (arith, link_at, terminal_at)

  -- where there is credit, what can't leave isn't there
  none_leaves : (P Q : Port) (c : ℕ) (u : Unready) → peer plan P ≡ Some Q → credit_at nodes (end_of plan P) ≡ Some c → 0 < c → IsSaidAt (network_of plan nodes) IsLeaveReason P u → outs plan nodes P ≡ []
  none_leaves P Q c u wired has some said = search (arith, link_at, no_leave, terminal_at)

  -- and a token can enter
  enters : (Q P : Port) (x : A) (c : ℕ) (u : Unready) → peer plan Q ≡ Some P → granted_at nodes (end_of plan Q) ≡ Some c → 0 < c → IsSaidAt (network_of plan nodes) IsEnterReason Q u → ⊥
  enters (Port.Switch s l) P x c u wired grants some said =
      let k = link_at s l P wired in
      let e : Some k.input.buffer.granted ≡ Some c = sym (rw (k.here, k.input_is) refl) ∙ grants in
      let d : k.input.buffer.granted ≡ c = cc in
      let r : (y : A) → IsReason k.switch (ActionOf.Enter l y) u = rw k.here at said in
      omega (arith, d, some, no_entry k.switch k.started_is l k.input k.input_is x u (r x))
  enters (Port.Terminal t) P x c u wired grants some said = search (arith, terminal_at)

  -- where nothing stands at an input, nothing waits at the other end of its wire
  pub drained : (P Q : Port) → peer plan P ≡ Some Q → ins plan nodes Q ≡ [] → outs plan nodes P ≡ []
  drained P Q wired none =
      let back : peer plan Q ≡ Some P = peer_back plan is_plan P Q wired in
      let level = steady.balanced P Q wired in
      let grant = reason_of (Event.Credit Q) (still.credits Q P back) in
      let some : 0 < level.0 = ⊎_elim
      (λ (h : (grant.0.port ≡ Q) × IsSaidAt (network_of plan nodes) IsCreditOutReason grant.0.port grant.0.unready). granted_some Q P level.0 grant.0.unready back level.2 none (subst (λ z. IsSaidAt (network_of plan nodes) IsCreditOutReason z grant.0.unready) h.0 h.1))
      (λ (h : (peer plan Q ≡ Some grant.0.port) × IsSaidAt (network_of plan nodes) IsCreditInReason grant.0.port grant.0.unready).
      let e : Some grant.0.port ≡ Some P = sym h.0 ∙ back in let same : grant.0.port ≡ P = cc in
      credit_some P Q level.0 grant.0.unready wired level.1 (subst (λ z. IsSaidAt (network_of plan nodes) IsCreditInReason z grant.0.unready) same h.1))
      grant.1 in
      by_out back level.0 level.1 level.2 some (reason_of (Event.Cross P) (still.crosses P Q wired)) (outs plan nodes P) refl
    where
      by_out : peer plan Q ≡ Some P → (c : ℕ) → credit_at nodes (end_of plan P) ≡ Some c → granted_at nodes (end_of plan Q) ≡ Some c → 0 < c → (r : Reason) × IsEventReason (network_of plan nodes) (Event.Cross P) r → (out : List A) → outs plan nodes P ≡ out → outs plan nodes P ≡ []
      by_out back c has grants some r [] e = e
      by_out back c has grants some r (x ∷ xs) e = ⊎_elim
          (λ (h : (r.0.port ≡ P) × IsSaidAt (network_of plan nodes) IsLeaveReason r.0.port r.0.unready). none_leaves P Q c r.0.unready wired has some (subst (λ z. IsSaidAt (network_of plan nodes) IsLeaveReason z r.0.unready) h.0 h.1))
          (λ (h : (peer plan P ≡ Some r.0.port) × IsSaidAt (network_of plan nodes) IsEnterReason r.0.port r.0.unready).
          let e' : Some r.0.port ≡ Some Q = sym h.0 ∙ wired in let same : r.0.port ≡ Q = cc in
          absurd (enters Q P x c r.0.unready back grants some (subst (λ z. IsSaidAt (network_of plan nodes) IsEnterReason z r.0.unready) same h.1)))
          r.1

  -- nothing stands at a terminal
  pub arrived : (t : ℕ) (Q : Port) → peer plan (Port.Terminal t) ≡ Some Q → ins plan nodes (Port.Terminal t) ≡ []
  arrived t Q wired = search (arith, terminal_at, reason_of, terminal_inside)

  -- an input with a token wants an output, or streams to one that is full
  pub stuck : (s l : ℕ) (Q : Port) → peer plan (Port.Switch s l) ≡ Some Q →
      (ins plan nodes (Port.Switch s l) ≡ [])
      ⊎ (((b : List A) × (g : ℕ) × (phases plan nodes (Port.Switch s l) ≡ Want b g))
      ⊎ ((o : ℕ) × (phases plan nodes (Port.Switch s l) ≡ Stream o) × ((R : Port) → peer plan (Port.Switch s o) ≡ Some R → 8 ≤ length (outs plan nodes (Port.Switch s o)))))
  stuck s l Q wired =
      let k = link_at s l Q wired in
      let r = reason_of (Event.Input s l 0) (still.inputs s l Q wired) in
      let see : ins plan nodes (Port.Switch s l) ≡ k.input.buffer.items = rw (k.here, k.input_is) refl in
      let phase : phases plan nodes (Port.Switch s l) ≡ k.input.phase = rw (k.here, k.input_is) refl in
      ⊎_elim (λ (h : k.input.buffer.items ≡ []). inl (see ∙ h)) (λ (h : ((b : List A) × (g : ℕ) × (k.input.phase ≡ Want b g)) ⊎ ((o : ℕ) × (k.input.phase ≡ Stream o) × ((q : Outgoing A) → slice_get k.switch.outputs o ≡ Some q → 8 ≤ length q.items))). ⊎_elim
      (λ (h : (b : List A) × (g : ℕ) × (k.input.phase ≡ Want b g)). inr (inl (h.0, h.1, phase ∙ h.2)))
      (λ (h : (o : ℕ) × (k.input.phase ≡ Stream o) × ((q : Outgoing A) → slice_get k.switch.outputs o ≡ Some q → 8 ≤ length q.items)). inr (inr (h.0, phase ∙ h.1, λ R to_r. full s h.0 R k.switch k.here to_r h.2)))
      h)
      (no_turn k.switch k.started_is l k.input k.input_is k.below r.0.unready (rw k.here at r.1.1))
    where
      full : (s o : ℕ) (R : Port) (S : Switch A) → slice_get nodes s ≡ Some (NodeOf.Switch S) → peer plan (Port.Switch s o) ≡ Some R → ((q : Outgoing A) → slice_get S.outputs o ≡ Some q → 8 ≤ length q.items) → 8 ≤ length (outs plan nodes (Port.Switch s o))
      full s o R S here to_r each =
          let ok : IsStartedSwitch S = started s (NodeOf.Switch S) here in
          let q = element_at S.outputs o (omega (arith, (switch_inside plan is_plan s o R to_r).1, ok.outputs)) in
          let see : outs plan nodes (Port.Switch s o) ≡ q.0.items = rw (here, q.1) refl in
          subst (λ (xs : List A). 8 ≤ length xs) (sym see) (each q.0 q.1)

  -- a link of the group that is wanted that has nothing is another input's
  pub claimed : (s i g o : ℕ) (b : List A) (Q R : Port) → peer plan (Port.Switch s i) ≡ Some Q → peer plan (Port.Switch s o) ≡ Some R → phases plan nodes (Port.Switch s i) ≡ Want b g →
      ((S : Switch A) → slice_get nodes s ≡ Some (NodeOf.Switch S) → is_in_group S.settings g o ≡ true) → outs plan nodes (Port.Switch s o) ≡ [] → length b ≤ 8 → (k : ℕ) × (phases plan nodes (Port.Switch s k) ≡ Stream o)
  claimed s i g o b Q R wired to_r wants group none few =
      let k = link_at s i Q wired in
      let below : o < 32 = (switch_inside plan is_plan s o R to_r).1 in
      let q = element_at k.switch.outputs o (omega (arith, below, k.started_is.outputs)) in
      let see : outs plan nodes (Port.Switch s o) ≡ q.0.items = rw (k.here, q.1) refl in
      let phase : phases plan nodes (Port.Switch s i) ≡ k.input.phase = rw (k.here, k.input_is) refl in
      let r = reason_of (Event.Claim s i o) (still.claims s i o k.inside k.below below) in
      let found = no_claim k.switch k.started_is i g o b k.input q.0 k.input_is q.1 below (sym phase ∙ wants) (group k.switch k.here) (sym see ∙ none) few r.0.unready (rw k.here at r.1.1) in
      (found.0, seen_phase k.switch found.0 found.1 k.here found.2 found.3)
    where
      seen_phase : (S : Switch A) (j : ℕ) (owner : Input A) → slice_get nodes s ≡ Some (NodeOf.Switch S) → slice_get S.inputs j ≡ Some owner → owner.phase ≡ Stream o → phases plan nodes (Port.Switch s j) ≡ Stream o
      seen_phase S j owner here is streams = rw (here, is) streams
