-- What the four acts of links change of a node, seen from its port.
use Rattle.c104_link.{proofs.MadeSteps.{at_place_made, from_place_made, given, required}, specs.Buffers.{Incoming, Outgoing}}
use Rattle.c104_link.specs.{Buffers.{incoming_accept, incoming_grant, outgoing_credited, outgoing_emit}, Steps.{step_at, yield_step_at}}
use Rattle.c104_net.proofs.NodeViews.{arrivals, arrivals_same, arrivals_terminal, at_id, ins, ins_put, ins_same, ins_terminal, kinds_same}
use Rattle.c104_net.proofs.NodeViews.{kinds_terminal, node_in, node_out, number_id, outs, outs_put, outs_same, outs_terminal, part_same}
use Rattle.c104_net.proofs.NodeViews.{part_set, phases, phases_same, phases_terminal, sents, sents_same, sents_terminal, settings_same}
use Rattle.c104_net.{proofs.{NodeViews.{settings_seen, settings_terminal}, PortChanges.at}, specs.Deliveries.sent_packets}
use Rattle.c104_node.{proofs.NextTokens.leave_some, specs.Nodes.{Node, arrived_tokens, is_switch, node_credit_in, node_credit_out}}
use Rattle.c104_node.specs.{Nodes.{node_enter, node_leave}, Terminals.{Terminal, terminal_credit_in, terminal_credit_out, terminal_enter}}
use Rattle.c104_node.specs.{Terminals.{terminal_leave, with_input, with_output}, Traces.part, declared.node.NodeOf.NodeOf}
use Rattle.{c104_plan.specs.{Plans.Plan, declared.ports.Port.Port}, c104_run.specs.{Ends.end_of, Network.terminal_place}}
use Rattle.c104_switch.specs.Switch.{Input, Switch, input_accept, input_grant, switch_credit_in, switch_credit_out, switch_enter}
use Rattle.c104_switch.specs.{Switch.{switch_leave, with_buffer, with_inputs, with_outputs}, declared.phase.Phase.TheVariants.Fresh}
use Rattle.std.proofs.Common.{List, Some, [], ap, length, map, nat_le, nat_lt, refl, slice_get, slice_set, subst, sym, ℕ, ◌++◌, ◌+◌, ◌-◌}
use Rattle.std.proofs.Common.{◌∙◌, ◌∷◌, ◌≡◌}

-- a node is of the kind of a port
abbrev pub Matches : {A : Type 0} → Port → Node A → Type 0
Matches (Port.Switch s l) (NodeOf.Switch S) = Unit {0}
Matches (Port.Terminal t) (NodeOf.Terminal T) = Unit {0}
Matches p n = ⊥

module _ {A : Type 0} (plan : Plan) where
  -- what an event on terminals and buffers leaves as it is
  pub record SameBut (nodes nodes' : List (Node A)) (ins' outs' : Port → List A) : Type 0 where
    pub ins_are : ins plan nodes' ≡ ins'
    pub outs_are : outs plan nodes' ≡ outs'
    pub phases_are : phases plan nodes' ≡ phases plan nodes
    pub arrivals_are : arrivals plan nodes' ≡ arrivals plan nodes
    pub sents_are : sents plan nodes' ≡ sents plan nodes
    pub settings_are : settings_seen plan nodes' ≡ settings_seen plan nodes
    pub kinds_are : map is_switch nodes' ≡ map is_switch nodes

  module _ (nodes : List (Node A)) (s : ℕ) (S : Switch A) (e : slice_get nodes s ≡ Some (NodeOf.Switch S)) (l : ℕ) where
    input_same : (p p' : Input A) → slice_get S.inputs l ≡ Some p → p'.phase ≡ p.phase → SameBut nodes (slice_set nodes s (NodeOf.Switch (with_inputs S (slice_set S.inputs l p')))) (at (ins plan nodes) (Port.Switch s l) p'.buffer.items) (outs plan nodes)
    input_same p p' f h = let T = with_inputs S (slice_set S.inputs l p') in record {
      ins_are = ins_put plan nodes s S T e l p'.buffer.items (λ j. part_set [] (λ (z : Input A). z.buffer.items) S.inputs l j p' p f);
      outs_are = outs_same plan nodes s S T e (λ j. refl);
      phases_are = phases_same plan nodes s S T e (λ j. part_same Fresh (λ (z : Input A). z.phase) S.inputs l j p' p f h);
      arrivals_are = arrivals_same plan nodes s S T e;
      sents_are = sents_same plan nodes s S T e;
      settings_are = settings_same plan nodes s S T e refl;
      kinds_are = kinds_same plan nodes s S T e;
    }

    output_same : (q q' : Outgoing A) → slice_get S.outputs l ≡ Some q → SameBut nodes (slice_set nodes s (NodeOf.Switch (with_outputs S (slice_set S.outputs l q')))) (ins plan nodes) (at (outs plan nodes) (Port.Switch s l) q'.items)
    output_same q q' f = let T = with_outputs S (slice_set S.outputs l q') in record {
      ins_are = ins_same plan nodes s S T e (λ j. refl);
      outs_are = outs_put plan nodes s S T e l q'.items (λ j. part_set [] (λ (z : Outgoing A). z.items) S.outputs l j q' q f);
      phases_are = phases_same plan nodes s S T e (λ j. refl);
      arrivals_are = arrivals_same plan nodes s S T e;
      sents_are = sents_same plan nodes s S T e;
      settings_are = settings_same plan nodes s S T e refl;
      kinds_are = kinds_same plan nodes s S T e;
    }

  module _ (nodes : List (Node A)) (t : ℕ) (T : Terminal A) (e : slice_get nodes (terminal_place plan t) ≡ Some (NodeOf.Terminal T)) where
    terminal_same : (T' : Terminal A) (outs' ins' : Port → List A) → T'.sent ≡ T.sent → T'.arrived ≡ T.arrived → at (ins plan nodes) (Port.Terminal t) T'.input.items ≡ ins' → at (outs plan nodes) (Port.Terminal t) T'.output.items ≡ outs' → SameBut nodes (slice_set nodes (terminal_place plan t) (NodeOf.Terminal T')) ins' outs'
    terminal_same T' outs' ins' hs ha hi ho = record {
      ins_are = ins_terminal plan nodes t T T' e ∙ hi;
      outs_are = outs_terminal plan nodes t T T' e ∙ ho;
      phases_are = phases_terminal plan nodes t T T' e;
      arrivals_are = arrivals_terminal plan nodes t T T' e ∙ number_id (arrivals plan nodes) t T'.arrived (ha ∙ sym (ap (part [] arrived_tokens) e));
      sents_are = sents_terminal plan nodes t T T' e ∙ number_id (sents plan nodes) t T'.sent (hs ∙ sym (ap (part [] sent_packets) e));
      settings_are = settings_terminal plan nodes t T T' e;
      kinds_are = kinds_terminal plan nodes t T T' e;
    }

    input_same_t : (b : Incoming A) → SameBut nodes (slice_set nodes (terminal_place plan t) (NodeOf.Terminal (with_input T b))) (at (ins plan nodes) (Port.Terminal t) b.items) (outs plan nodes)
    input_same_t b = terminal_same (with_input T b) (outs plan nodes) (at (ins plan nodes) (Port.Terminal t) b.items) refl refl refl (at_id (outs plan nodes) (Port.Terminal t) T.output.items (sym (ap (part [] (node_out (Port.Terminal t))) e)))

    output_same_t : (q : Outgoing A) → SameBut nodes (slice_set nodes (terminal_place plan t) (NodeOf.Terminal (with_output T q))) (ins plan nodes) (at (outs plan nodes) (Port.Terminal t) q.items)
    output_same_t q = terminal_same (with_output T q) (at (outs plan nodes) (Port.Terminal t) q.items) (ins plan nodes) refl refl (at_id (ins plan nodes) (Port.Terminal t) T.input.items (sym (ap (part [] (node_in (Port.Terminal t))) e))) refl

enter_some : {A : Type 0} (x : A) (b b' : Incoming A) → incoming_accept x b ≡ Some b' → b'.items ≡ b.items ++ x ∷ []
enter_some x b b' e = required (nat_lt 0 b.granted) _ b' e (λ h e1. (let d : record { cap = b.cap; items = b.items ++ x ∷ []; granted = b.granted - 1 } ≡ b' = cc in sym (ap (λ (z : Incoming _). z.items) d)))

grant_items : {A : Type 0} (b b' : Incoming A) → incoming_grant b ≡ Some b' → b'.items ≡ b.items
grant_items b b' e = required (nat_le (length b.items + b.granted + 8) b.cap) _ b' e (λ h e1. (let d : record { cap = b.cap; items = b.items; granted = b.granted + 8 } ≡ b' = cc in sym (ap (λ (z : Incoming _). z.items) d)))

credited_items : {A : Type 0} (q q' : Outgoing A) → outgoing_credited q ≡ Some q' → q'.items ≡ q.items
credited_items q q' e = required (nat_le (q.credit + 8) 64) _ q' e (λ h e1. (let d : record { items = q.items; credit = q.credit + 8 } ≡ q' = cc in sym (ap (λ (z : Outgoing _). z.items) d)))

-- what the four actions of links change, seen from a port, at a node of the port's kind
module _ {A : Type 0} (plan : Plan) (nodes : List (Node A)) where
  pub enter_same : (Q : Port) (x : A) (n n' : Node A) → slice_get nodes (end_of plan Q).node ≡ Some n → Matches Q n → node_enter x (end_of plan Q).link n ≡ Some n' →
      SameBut plan nodes (slice_set nodes (end_of plan Q).node n') (at (ins plan nodes) Q (ins plan nodes Q ++ x ∷ [])) (outs plan nodes)
  enter_same (Port.Switch s l) x (NodeOf.Switch S) n' e m f =
      given (switch_enter S l x) _ n' f (λ S' f1 f2. given (step_at S.inputs l (input_accept x)) _ S' f1 (λ ps g1 g2. at_place_made S.inputs l (input_accept x) ps g1 (λ p p' ep h1 h2. given (incoming_accept x p.buffer) _ p' h1 (λ b eb h3.
      (let T = with_inputs S (slice_set S.inputs l (with_buffer p b)) in
      let d : NodeOf.Switch T ≡ n' = cc in
      let came : b.items ≡ ins plan nodes (Port.Switch s l) ++ x ∷ [] = enter_some x p.buffer b eb ∙ ap (λ z. z ++ x ∷ []) (sym (rw (e, ep) refl)) in
      subst (λ k. SameBut plan nodes (slice_set nodes s k) (at (ins plan nodes) (Port.Switch s l) (ins plan nodes (Port.Switch s l) ++ x ∷ [])) (outs plan nodes)) d (subst (λ v. SameBut plan nodes (slice_set nodes s (NodeOf.Switch T)) (at (ins plan nodes) (Port.Switch s l) v) (outs plan nodes)) came (input_same plan nodes s S e l p (with_buffer p b) ep refl)))))))
  enter_same (Port.Terminal t) x (NodeOf.Terminal T) n' e m f =
      given (terminal_enter x T) _ n' f (λ T' f1 f2. given (incoming_accept x T.input) _ T' f1 (λ b eb g2.
      (let d : NodeOf.Terminal (with_input T b) ≡ n' = cc in
      let came : b.items ≡ ins plan nodes (Port.Terminal t) ++ x ∷ [] = enter_some x T.input b eb ∙ ap (λ z. z ++ x ∷ []) (sym (rw e refl)) in
      subst (λ k. SameBut plan nodes (slice_set nodes (terminal_place plan t) k) (at (ins plan nodes) (Port.Terminal t) (ins plan nodes (Port.Terminal t) ++ x ∷ [])) (outs plan nodes)) d (subst (λ v. SameBut plan nodes (slice_set nodes (terminal_place plan t) (NodeOf.Terminal (with_input T b))) (at (ins plan nodes) (Port.Terminal t) v) (outs plan nodes)) came (input_same_t plan nodes t T e b)))))
  enter_same P x n n' e m f = absurd m

  pub leave_same : (P : Port) (n : Node A) (r : A × Node A) → slice_get nodes (end_of plan P).node ≡ Some n → Matches P n → node_leave (end_of plan P).link n ≡ Some r →
      (rest : List A) × (outs plan nodes P ≡ r.0 ∷ rest) × SameBut plan nodes (slice_set nodes (end_of plan P).node r.1) (ins plan nodes) (at (outs plan nodes) P rest)
  leave_same (Port.Switch s l) (NodeOf.Switch S) r e m f =
      given (switch_leave S l) _ r f (λ v f1 f2. given (yield_step_at S.outputs l outgoing_emit) _ v f1 (λ qs g1 g2. from_place_made S.outputs l outgoing_emit qs g1 (λ q y eq ey h2.
      (let T = with_outputs S (slice_set S.outputs l y.1) in
      let d1 : ◌≡◌ {A = A × Switch A} (y.0, T) v = ap (λ (z : A × List (Outgoing A)). (z.0, with_outputs S z.1)) h2 ∙ cc in
      let d : ◌≡◌ {A = A × Node A} (y.0, NodeOf.Switch T) r = ap (λ (z : A × Switch A). (z.0, NodeOf.Switch z.1)) d1 ∙ cc in
      let out : outs plan nodes (Port.Switch s l) ≡ y.0 ∷ y.1.items = rw (e, eq) (leave_some q y ey) in
      let w : (outs plan nodes (Port.Switch s l) ≡ r.0 ∷ y.1.items) × SameBut plan nodes (slice_set nodes s r.1) (ins plan nodes) (at (outs plan nodes) (Port.Switch s l) y.1.items) = subst (λ (z : A × Node A). (outs plan nodes (Port.Switch s l) ≡ z.0 ∷ y.1.items) × SameBut plan nodes (slice_set nodes s z.1) (ins plan nodes) (at (outs plan nodes) (Port.Switch s l) y.1.items)) d (out, output_same plan nodes s S e l q y.1 eq) in
      (y.1.items, w.0, w.1)))))
  leave_same (Port.Terminal t) (NodeOf.Terminal T) r e m f =
      given (terminal_leave T) _ r f (λ v f1 f2. given (outgoing_emit T.output) _ v f1 (λ y ey g2.
      (let d1 : ◌≡◌ {A = A × Terminal A} (y.0, with_output T y.1) v = cc in
      let d : ◌≡◌ {A = A × Node A} (y.0, NodeOf.Terminal (with_output T y.1)) r = ap (λ (z : A × Terminal A). (z.0, NodeOf.Terminal z.1)) d1 ∙ cc in
      let out : outs plan nodes (Port.Terminal t) ≡ y.0 ∷ y.1.items = rw e (leave_some T.output y ey) in
      let w : (outs plan nodes (Port.Terminal t) ≡ r.0 ∷ y.1.items) × SameBut plan nodes (slice_set nodes (terminal_place plan t) r.1) (ins plan nodes) (at (outs plan nodes) (Port.Terminal t) y.1.items) = subst (λ (z : A × Node A). (outs plan nodes (Port.Terminal t) ≡ z.0 ∷ y.1.items) × SameBut plan nodes (slice_set nodes (terminal_place plan t) z.1) (ins plan nodes) (at (outs plan nodes) (Port.Terminal t) y.1.items)) d (out, output_same_t plan nodes t T e y.1) in
      (y.1.items, w.0, w.1))))
  leave_same P n r e m f = absurd m

  pub credit_out_same : (P : Port) (n n' : Node A) → slice_get nodes (end_of plan P).node ≡ Some n → Matches P n → node_credit_out (end_of plan P).link n ≡ Some n' → SameBut plan nodes (slice_set nodes (end_of plan P).node n') (ins plan nodes) (outs plan nodes)
  credit_out_same (Port.Switch s l) (NodeOf.Switch S) n' e m f =
      given (switch_credit_out S l) _ n' f (λ S' f1 f2. required S.started _ S' f1 (λ started f0. given (step_at S.inputs l input_grant) _ S' f0 (λ ps g1 g2. at_place_made S.inputs l input_grant ps g1 (λ p p' ep h1 h2. given (incoming_grant p.buffer) _ p' h1 (λ b eb h3.
      (let T = with_inputs S (slice_set S.inputs l (with_buffer p b)) in
      let d : NodeOf.Switch T ≡ n' = cc in
      let same : at (ins plan nodes) (Port.Switch s l) b.items ≡ ins plan nodes = at_id (ins plan nodes) (Port.Switch s l) b.items (grant_items p.buffer b eb ∙ sym (rw (e, ep) refl)) in
      subst (λ k. SameBut plan nodes (slice_set nodes s k) (ins plan nodes) (outs plan nodes)) d (subst (λ v. SameBut plan nodes (slice_set nodes s (NodeOf.Switch T)) v (outs plan nodes)) same (input_same plan nodes s S e l p (with_buffer p b) ep refl))))))))
  credit_out_same (Port.Terminal t) (NodeOf.Terminal T) n' e m f =
      given (terminal_credit_out T) _ n' f (λ T' f1 f2. given (incoming_grant T.input) _ T' f1 (λ b eb g2.
      (let d : NodeOf.Terminal (with_input T b) ≡ n' = cc in
      let same : at (ins plan nodes) (Port.Terminal t) b.items ≡ ins plan nodes = at_id (ins plan nodes) (Port.Terminal t) b.items (grant_items T.input b eb ∙ sym (rw e refl)) in
      subst (λ k. SameBut plan nodes (slice_set nodes (terminal_place plan t) k) (ins plan nodes) (outs plan nodes)) d (subst (λ v. SameBut plan nodes (slice_set nodes (terminal_place plan t) (NodeOf.Terminal (with_input T b))) v (outs plan nodes)) same (input_same_t plan nodes t T e b)))))
  credit_out_same P n n' e m f = absurd m

  pub credit_in_same : (P : Port) (n n' : Node A) → slice_get nodes (end_of plan P).node ≡ Some n → Matches P n → node_credit_in (end_of plan P).link n ≡ Some n' → SameBut plan nodes (slice_set nodes (end_of plan P).node n') (ins plan nodes) (outs plan nodes)
  credit_in_same (Port.Switch s l) (NodeOf.Switch S) n' e m f =
      given (switch_credit_in S l) _ n' f (λ S' f1 f2. given (step_at S.outputs l outgoing_credited) _ S' f1 (λ qs g1 g2. at_place_made S.outputs l outgoing_credited qs g1 (λ q q' eq h1 h2.
      (let T = with_outputs S (slice_set S.outputs l q') in
      let d : NodeOf.Switch T ≡ n' = cc in
      let same : at (outs plan nodes) (Port.Switch s l) q'.items ≡ outs plan nodes = at_id (outs plan nodes) (Port.Switch s l) q'.items (credited_items q q' h1 ∙ sym (rw (e, eq) refl)) in
      subst (λ k. SameBut plan nodes (slice_set nodes s k) (ins plan nodes) (outs plan nodes)) d (subst (λ v. SameBut plan nodes (slice_set nodes s (NodeOf.Switch T)) (ins plan nodes) v) same (output_same plan nodes s S e l q q' eq))))))
  credit_in_same (Port.Terminal t) (NodeOf.Terminal T) n' e m f =
      given (terminal_credit_in T) _ n' f (λ T' f1 f2. given (outgoing_credited T.output) _ T' f1 (λ q eq g2.
      (let d : NodeOf.Terminal (with_output T q) ≡ n' = cc in
      let same : at (outs plan nodes) (Port.Terminal t) q.items ≡ outs plan nodes = at_id (outs plan nodes) (Port.Terminal t) q.items (credited_items T.output q eq ∙ sym (rw e refl)) in
      subst (λ k. SameBut plan nodes (slice_set nodes (terminal_place plan t) k) (ins plan nodes) (outs plan nodes)) d (subst (λ v. SameBut plan nodes (slice_set nodes (terminal_place plan t) (NodeOf.Terminal (with_output T q))) (ins plan nodes) v) same (output_same_t plan nodes t T e q)))))
  credit_in_same P n n' e m f = absurd m
