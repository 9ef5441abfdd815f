-- What each step of one node does to the credit and what is granted at its links.
use Rattle.c104_link.{proofs.MadeSteps.{at_place_made, from_place_made, given, required, with_place_made}, specs.Buffers.Incoming}
use Rattle.{c104_link.specs.{Buffers.Outgoing, Steps.{joint_step_at, step_at, yield_step_at, ◌>>=◌}}, c104_node.specs.Nodes.Node}
use Rattle.c104_node.specs.Nodes.{as_switch, node_claim, node_control, node_credit_in, node_credit_out, node_drain, node_enter, node_input}
use Rattle.c104_node.specs.{Nodes.{node_leave, node_send}, declared.node.NodeOf.TheVariants.{Switch, Terminal}}
use Rattle.c104_run.proofs.{BalanceControl.control_keeps, BalancePlaces.{Acts, Rests, lower, raise, seen_changed, seen_kept, seen_other}}
use Rattle.c104_run.proofs.BalanceTurns.{KeepsSides, accepted_lowers, claimed_keeps, credit_seen, credited_raises, enter_lowers}
use Rattle.c104_run.{proofs.BalanceTurns.{grant_raises, granted_raises, granted_seen, leave_lowers, turn_keeps}, specs.Balance.credit_of}
use Rattle.{c104_run.specs.Balance.granted_of, c104_token.specs.{Kinds.Kind, declared.packets.Packet.Packet}, std.proofs.Common.List}
use Rattle.std.proofs.Common.{Option, Some, ap, arith, not, slice_get, slice_set, subst, ℕ, ◌∙◌, ◌≡◌}
use Rattle.c104_link.specs.Buffers as buffer
use Rattle.c104_node.specs.Terminals as terminal
use Rattle.c104_switch.specs.Claims as claims
use Rattle.c104_switch.specs.Control as controls
use Rattle.c104_switch.specs.Switch as switch
use Rattle.c104_switch.specs.Turns as turns

module _ {A : Type 0} where
  -- a switch of which the credit of one output changes
  switch_credit : (change : ℕ → ℕ) (s : switch.Switch A) (l : ℕ) (q r : Outgoing A) → slice_get s.outputs l ≡ Some q → r.credit ≡ change q.credit → Acts granted_of credit_of change l (Switch s) (Switch (switch.with_outputs s (slice_set s.outputs l r)))
  switch_credit change s l q r is new = search (arith, seen_changed, credit_seen, seen_other)

  -- a switch of which one input grants another number
  switch_granted : (change : ℕ → ℕ) (s : switch.Switch A) (l : ℕ) (p r : switch.Input A) → slice_get s.inputs l ≡ Some p → r.buffer.granted ≡ change p.buffer.granted → Acts credit_of granted_of change l (Switch s) (Switch (switch.with_inputs s (slice_set s.inputs l r)))
  switch_granted change s l p r is new = search (arith, seen_changed, granted_seen, seen_other)

  -- a terminal whose credit changes
  terminal_credit : (change : ℕ → ℕ) (t : terminal.Terminal A) (l : ℕ) (r : Outgoing A) → r.credit ≡ change t.output.credit → Acts granted_of credit_of change l (Terminal t) (Terminal (terminal.with_output t r))
  terminal_credit change t l r new = search arith

  -- a terminal that grants another number
  terminal_granted : (change : ℕ → ℕ) (t : terminal.Terminal A) (l : ℕ) (r : Incoming A) → r.granted ≡ change t.input.granted → Acts credit_of granted_of change l (Terminal t) (Terminal (terminal.with_input t r))
  terminal_granted change t l r new = search arith

  -- a token goes out
  pub leave_acts : (l : ℕ) (n : Node A) (r : A × Node A) → node_leave l n ≡ Some r → Acts granted_of credit_of lower l n r.1
  leave_acts l (Switch s) r is = given (switch.switch_leave s l) _ r is (λ v out last. given (yield_step_at s.outputs l buffer.outgoing_emit) _ v out (λ w from more. from_place_made s.outputs l buffer.outgoing_emit w from (λ q y here left set.
      let one : ◌≡◌ {A = A × switch.Switch A} (w.0, switch.with_outputs s w.1) v = cc in
      let two : ◌≡◌ {A = A × Node A} (v.0, Switch v.1) r = cc in
      subst (λ (r : A × Node A). Acts granted_of credit_of lower l (Switch s) r.1) two (subst (λ (v : A × switch.Switch A). Acts granted_of credit_of lower l (Switch s) (Switch v.1)) one (subst (λ (w : A × List (Outgoing A)). Acts granted_of credit_of lower l (Switch s) (Switch (switch.with_outputs s w.1))) set (switch_credit lower s l q y.1 here (leave_lowers q y left)))))))
  leave_acts l (Terminal t) r is = search (arith, given, lower, terminal_credit, leave_lowers)

  -- a step of a switch's inputs, and the node with it
  input_step : (change : ℕ → ℕ) (s : switch.Switch A) (l : ℕ) (f : switch.Input A → Option (switch.Input A)) (s' : switch.Switch A) (m : Node A) → (step_at s.inputs l f >>= (λ ps. Some (switch.with_inputs s ps))) ≡ Some s' → as_switch s' ≡ Some m → ((p r : switch.Input A) → f p ≡ Some r → r.buffer.granted ≡ change p.buffer.granted) → Acts credit_of granted_of change l (Switch s) m
  input_step change s l f s' m is last new = given (step_at s.inputs l f) _ s' is (λ ps at more. at_place_made s.inputs l f ps at (λ p r here made set.
      let one : switch.with_inputs s ps ≡ s' = cc in
      let two : ◌≡◌ {A = Node A} (Switch s') m = cc in
      subst (Acts credit_of granted_of change l (Switch s)) two (subst (λ (v : switch.Switch A). Acts credit_of granted_of change l (Switch s) (Switch v)) one (subst (λ ps. Acts credit_of granted_of change l (Switch s) (Switch (switch.with_inputs s ps))) set (switch_granted change s l p r here (new p r made))))))

  -- a token comes in
  pub enter_acts : (x : A) (l : ℕ) (n m : Node A) → node_enter x l n ≡ Some m → Acts credit_of granted_of lower l n m
  enter_acts x l (Switch s) m is = given (switch.switch_enter s l x) _ m is (λ s' made last. input_step lower s l (switch.input_accept x) s' m made last (accepted_lowers x))
  enter_acts x l (Terminal t) m is = search (arith, given, lower, terminal_granted, enter_lowers)

  -- a link grants eight more tokens
  pub credit_out_acts : (l : ℕ) (n m : Node A) → node_credit_out l n ≡ Some m → Acts credit_of granted_of raise l n m
  credit_out_acts l (Switch s) m is = given (switch.switch_credit_out s l) _ m is (λ s' made last. required s.started _ s' made (λ on more. input_step raise s l switch.input_grant s' m more last granted_raises))
  credit_out_acts l (Terminal t) m is = search (arith, given, raise, terminal_granted, grant_raises)

  -- a link may send eight more tokens
  pub credit_in_acts : (l : ℕ) (n m : Node A) → node_credit_in l n ≡ Some m → Acts granted_of credit_of raise l n m
  credit_in_acts l (Switch s) m is = given (switch.switch_credit_in s l) _ m is (λ s' made last. given (step_at s.outputs l buffer.outgoing_credited) _ s' made (λ qs at more. at_place_made s.outputs l buffer.outgoing_credited qs at (λ q r here came set.
      let one : switch.with_outputs s qs ≡ s' = cc in
      let two : ◌≡◌ {A = Node A} (Switch s') m = cc in
      subst (Acts granted_of credit_of raise l (Switch s)) two (subst (λ (v : switch.Switch A). Acts granted_of credit_of raise l (Switch s) (Switch v)) one (subst (λ qs. Acts granted_of credit_of raise l (Switch s) (Switch (switch.with_outputs s qs))) set (switch_credit raise s l q r here (credited_raises q r came)))))))
  credit_in_acts l (Terminal t) m is = search (arith, given, raise, terminal_credit, credited_raises)

  -- a step of both sides of a switch that keeps both numbers
  sides_rest : (s : switch.Switch A) (i : ℕ) (f : switch.Input A → Option (switch.Input A × List (Outgoing A))) (s' : switch.Switch A) (m : Node A) → (joint_step_at s.inputs i f >>= (λ r. Some (switch.with_sides s r))) ≡ Some s' → as_switch s' ≡ Some m → ((p : switch.Input A) (r : switch.Input A × List (Outgoing A)) → f p ≡ Some r → KeepsSides p s.outputs r.0 r.1) → Rests (Switch s) m
  sides_rest s i f s' m is last keeps = search (arith, given, with_place_made, seen_kept, granted_seen)

  -- an input takes a turn
  pub input_rests : (kind : Kind A) (i word : ℕ) (n m : Node A) → node_input kind i word n ≡ Some m → Rests n m
  input_rests kind i word (Switch s) m is = given (turns.switch_input kind s i word) _ m is (λ s' made last. required s.started _ s' made (λ on more. given (slice_get s.settings i) _ s' more (λ t own most.
      sides_rest s i (λ p. turns.input_turn kind t word p s.outputs) s' m most last (λ p. turn_keeps kind t word p s.outputs))))
  input_rests kind i word (Terminal t) m is = cc

  -- an input claims an output
  pub claim_rests : (i o : ℕ) (n m : Node A) → node_claim i o n ≡ Some m → Rests n m
  claim_rests i o (Switch s) m is = given (claims.switch_claim s i o) _ m is (λ s' made last. required s.started _ s' made (λ on more. given (claims.inputs_claim s.settings s.inputs s.outputs i o) _ s' more (λ w at rest. required (not (switch.is_owned s.inputs o)) _ w at (λ free step.
      sides_rest s i (λ p. claims.input_claim s.settings p s.outputs o p.phase) s' m (ap (λ made. made >>= (λ r. Some (switch.with_sides s r))) step ∙ rest) last (λ p. claimed_keeps s.settings p s.outputs o p.phase)))))
  claim_rests i o (Terminal t) m is = cc

  -- a switch does what a control command says
  pub control_rests : (bytes : List ℕ) (n : Node A) (r : List ℕ × Node A) → node_control bytes n ≡ Some r → Rests n r.1
  control_rests bytes (Switch s) r is =
      let same : ◌≡◌ {A = List ℕ × Node A} ((controls.switch_control s bytes).0, Switch (controls.switch_control s bytes).1) r = cc in
      subst (λ (r : List ℕ × Node A). Rests (Switch s) r.1) same (control_keeps s bytes)
  control_rests bytes (Terminal t) r is = cc

  -- a terminal sends a packet
  pub send_rests : (kind : Kind A) (number : ℕ) (packet : Packet) (n m : Node A) → node_send kind number packet n ≡ Some m → Rests n m
  send_rests kind number packet n m is = search arith

  -- a token arrives at a terminal
  pub drain_rests : (n : Node A) (r : A × Node A) → node_drain n ≡ Some r → Rests n r.1
  drain_rests n r is = search (arith, given)
