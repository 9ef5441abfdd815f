-- Each event of a round that is done leaves less work.
use Rattle.{c104_check.specs.{Walks.port_of, declared.ports.SwitchPort.SwitchPort}, c104_deadlock.specs.HeaderWork.{ahead_at, first_ahead}}
use Rattle.c104_deadlock.specs.HeaderWork.{full_incoming, full_input, full_inputs, full_link, full_node, full_output, full_outputs}
use Rattle.{c104_deadlock.specs.Work.{header_held, level, sum_at, weigh}, c104_link.proofs.MadeSteps.{at_place_made, from_place_made}}
use Rattle.c104_link.{proofs.MadeSteps.{given, required}, specs.Buffers.{Incoming, Outgoing, incoming_accept, incoming_grant}}
use Rattle.c104_link.specs.{Buffers.{outgoing_credited, outgoing_emit, outgoing_put, outgoing_put_all, without_first}, Steps.step_at}
use Rattle.{c104_link.specs.Steps.yield_step_at, c104_net.proofs.LinkActs.Matches, c104_node.specs.Nodes.{Node, node_credit_in}}
use Rattle.c104_node.specs.{Nodes.{node_credit_out, node_drain, node_enter, node_leave}, Terminals.{terminal_enter, with_input}}
use Rattle.{c104_node.specs.declared.node.NodeOf.NodeOf, c104_plan.specs.{Plans.Plan, Wiring.peer, declared.ports.Port.Port}}
use Rattle.{c104_regs.specs.{Settings.header_length, declared.settings.Settings.Settings}, c104_run.specs.Ends.end_of}
use Rattle.{c104_run.specs.Network.terminal_place, c104_switch.specs.{Claims.{input_claim, put_header, streaming_input}, Group.is_in_group}}
use Rattle.c104_switch.specs.{Headers.phase_after_header, Switch.{Input, Switch, input_accept, input_grant, switch_credit_in}}
use Rattle.c104_switch.specs.Switch.{switch_credit_out, switch_enter, switch_leave, with_buffer, with_inputs, with_outputs}
use Rattle.c104_switch.specs.Turns.{header_turn, input_after_token, phase_after_token, random_turn, turn_by_phase}
use Rattle.{c104_switch.specs.declared.phase.Phase.{Phase, TheVariants.{Fresh, Head, Sinking, Stream, Want}}, c104_token.specs.Kinds.Kind}
use Rattle.{c104_token.specs.Tokens.is_end, std.proofs.Common.{Bool, List, Some, [], ap, arith, drop, false, length, length-append, nat_le}}
use Rattle.std.proofs.Common.{nat_lt, refl, slice_get, slice_set, subst, suc, sym, true, zero, ℕ, ⊎_elim, ◌*◌, ◌++◌, ◌+◌, ◌-◌, ◌<◌, ◌∙◌}
use Rattle.std.proofs.{Common.{◌∷◌, ◌≡◌, ◌≤◌}, lemmas.Bool.{Decides.nat_tests, and_parts, cases_Bool}}

module _ {X : Type 0} where
  pub weigh-append : (a : ℕ) (xs ys : List X) → weigh a (xs ++ ys) ≡ weigh a xs + weigh a ys
  weigh-append a [] ys = omega arith
  weigh-append a (x ∷ xs) ys = let r = weigh-append a xs ys in omega (arith, r)

  -- a smaller weight of elements that there are
  weigh_less : (a c : ℕ) (xs : List X) → a + 1 ≤ c → 0 < length xs → weigh a xs + 1 ≤ weigh c xs
  weigh_less a c [] h k = absurd (omega (arith, k))
  weigh_less a c (x ∷ []) h k = omega (arith, h)
  weigh_less a c (x ∷ y ∷ xs) h k = let r = weigh_less a c (y ∷ xs) h (omega arith) in omega (arith, h, r)

  sum_put : (f : ℕ → X → ℕ) (j : ℕ) (xs : List X) (i : ℕ) (x y : X) → slice_get xs i ≡ Some x → sum_at f j (slice_set xs i y) + f (j + i) x ≡ sum_at f j xs + f (j + i) y
  sum_put f j [] i x y e = absurd (cc)
  sum_put f j (z ∷ xs) zero x y e = let d : z ≡ x = cc in let k : j + 0 ≡ j = omega arith in rw (k, d) (omega arith)
  sum_put f j (z ∷ xs) (suc i) x y e =
      let r = sum_put f (suc j) xs i x y e in
      let k : j + suc i ≡ suc j + i = omega arith in
      rw k (omega (arith, r))

  -- a change of one element changes the sum by as much
  pub sum_set : (f : ℕ → X → ℕ) (xs : List X) (i : ℕ) (x y : X) → slice_get xs i ≡ Some x → sum_at f 0 (slice_set xs i y) + f i x ≡ sum_at f 0 xs + f i y
  sum_set f xs i x y e = let k : 0 + i ≡ i = omega arith in subst (λ n. sum_at f 0 (slice_set xs i y) + f n x ≡ sum_at f 0 xs + f n y) k (sum_put f 0 xs i x y e)

module _ (plan : Plan) where
  terminal_number : (t : ℕ) → terminal_place plan t - length plan.switches ≡ t
  terminal_number t = omega arith

  module _ (rank : SwitchPort → ℕ) where
    -- how far it is from the wire at a port, and from a port itself
    abbrev pub far_of : Port → ℕ
    far_of P = level plan rank (peer plan P)

    abbrev pub own : Port → ℕ
    own Q = level plan rank (Some Q)

    module _ (ahead : SwitchPort → ℕ) where
      -- what is counted in advance at a port, and at the one that its wire leads to
      abbrev pub at_own : Port → ℕ
      at_own Q = ahead_at plan rank ahead (Some Q)

      abbrev pub at_far : Port → ℕ
      at_far P = ahead_at plan rank ahead (peer plan P)

module _ {A : Type 0} (plan : Plan) (rank ahead : SwitchPort → ℕ) where
  -- a buffer that takes a token in, or grants, or loses its first token
  accept_work : (far a : ℕ) (x : A) (b c : Incoming A) → incoming_accept x b ≡ Some c → full_incoming plan rank ahead far a c ≡ full_incoming plan rank ahead far a b + (8 * far + 2 + a)
  accept_work far a x b c e = search (arith, required, nat_tests, length-append, weigh-append)

  grant_work : (far a : ℕ) (b c : Incoming A) → incoming_grant b ≡ Some c → full_incoming plan rank ahead far a c + 8 ≡ full_incoming plan rank ahead far a b
  grant_work far a b c e = grind arith

  first_work : (far a : ℕ) (x : A) (b : Incoming A) → b.items ≡ x ∷ drop 1 b.items → full_incoming plan rank ahead far a (without_first b) + (8 * far + 2 + a) ≤ full_incoming plan rank ahead far a b + 1
  first_work far a x b e = rw e (omega arith)

  emit_work : (far a : ℕ) (q : Outgoing A) (r : A × Outgoing A) → outgoing_emit q ≡ Some r → full_output plan rank ahead far a r.1 + (8 * far + 4 + a) ≡ full_output plan rank ahead far a q
  emit_work far a q r e = grind arith

  credited_work : (far a : ℕ) (q r : Outgoing A) → outgoing_credited q ≡ Some r → full_output plan rank ahead far a r ≡ full_output plan rank ahead far a q
  credited_work far a q r e = required (nat_le (q.credit + 8) 64) _ r e (λ h f. (let d : record { items = q.items; credit = q.credit + 8 } ≡ r = cc in subst (λ z. full_output plan rank ahead far a z ≡ full_output plan rank ahead far a q) d refl))

  module _ (s : ℕ) (S : Switch A) where
    -- a change of one input, and of one output
    pub input_set : (l : ℕ) (p r : Input A) → slice_get S.inputs l ≡ Some p → full_inputs plan rank ahead s (slice_set S.inputs l r) + full_input plan rank ahead s l p ≡ full_inputs plan rank ahead s S.inputs + full_input plan rank ahead s l r
    input_set l p r e = sum_set (full_input plan rank ahead s) S.inputs l p r e

    output_set : (l : ℕ) (q r : Outgoing A) → slice_get S.outputs l ≡ Some q → full_outputs plan rank ahead s (slice_set S.outputs l r) + full_link plan rank ahead s l q ≡ full_outputs plan rank ahead s S.outputs + full_link plan rank ahead s l r
    output_set l q r e = sum_set (full_link plan rank ahead s) S.outputs l q r e

  pub enter_work : (Q : Port) (x : A) (n m : Node A) → Matches Q n → node_enter x (end_of plan Q).link n ≡ Some m → full_node plan rank ahead (end_of plan Q).node m ≡ full_node plan rank ahead (end_of plan Q).node n + (8 * own plan rank Q + 2 + at_own plan rank ahead Q)
  enter_work (Port.Switch s l) x (NodeOf.Switch S) m k e =
      given (switch_enter S l x) _ m e (λ S' f1 f2. given (step_at S.inputs l (input_accept x)) _ S' f1 (λ ps g1 g2. at_place_made S.inputs l (input_accept x) ps g1 (λ p p' ep h1 h2. given (incoming_accept x p.buffer) _ p' h1 (λ b eb h3.
      (let d : NodeOf.Switch (with_inputs S (slice_set S.inputs l (with_buffer p b))) ≡ m = cc in
      let one = accept_work (own plan rank (Port.Switch s l)) (at_own plan rank ahead (Port.Switch s l)) x p.buffer b eb in
      let all = input_set s S l p (with_buffer p b) ep in
      subst (λ z. full_node plan rank ahead s z ≡ full_node plan rank ahead s (NodeOf.Switch S) + (8 * own plan rank (Port.Switch s l) + 2 + at_own plan rank ahead (Port.Switch s l))) d (omega (arith, one, all)))))))
  enter_work (Port.Terminal t) x (NodeOf.Terminal T) m k e =
      given (terminal_enter x T) _ m e (λ T' f1 f2. given (incoming_accept x T.input) _ T' f1 (λ b eb g2.
      (let d : NodeOf.Terminal (with_input T b) ≡ m = cc in
      let one = accept_work 0 0 x T.input b eb in
      subst (λ z. full_node plan rank ahead (terminal_place plan t) z ≡ full_node plan rank ahead (terminal_place plan t) (NodeOf.Terminal T) + 2) d (omega (arith, one)))))
  enter_work P x n m k e = absurd k

  pub leave_work : (P : Port) (n : Node A) (r : A × Node A) → Matches P n → node_leave (end_of plan P).link n ≡ Some r → full_node plan rank ahead (end_of plan P).node r.1 + (8 * far_of plan rank P + 4 + at_far plan rank ahead P) ≡ full_node plan rank ahead (end_of plan P).node n
  leave_work (Port.Switch s l) (NodeOf.Switch S) r k e =
      given (switch_leave S l) _ r e (λ v f1 f2. given (yield_step_at S.outputs l outgoing_emit) _ v f1 (λ qs g1 g2. from_place_made S.outputs l outgoing_emit qs g1 (λ q y eq ey h2.
      (let d1 : ◌≡◌ {A = A × Switch A} (y.0, with_outputs S (slice_set S.outputs l y.1)) v = ap (λ (z : A × List (Outgoing A)). (z.0, with_outputs S z.1)) h2 ∙ cc in
      let d : ◌≡◌ {A = A × Node A} (y.0, NodeOf.Switch (with_outputs S (slice_set S.outputs l y.1))) r = ap (λ (z : A × Switch A). (z.0, NodeOf.Switch z.1)) d1 ∙ cc in
      let one = emit_work (far_of plan rank (Port.Switch s l)) (at_far plan rank ahead (Port.Switch s l)) q y ey in
      let all = output_set s S l q y.1 eq in
      subst (λ (z : A × Node A). full_node plan rank ahead s z.1 + (8 * far_of plan rank (Port.Switch s l) + 4 + at_far plan rank ahead (Port.Switch s l)) ≡ full_node plan rank ahead s (NodeOf.Switch S)) d (omega (arith, one, all))))))
  leave_work (Port.Terminal t) (NodeOf.Terminal T) r k e = search (arith, given, terminal_number)
  leave_work P n r k e = absurd k

  pub credit_out_work : (P : Port) (n m : Node A) → Matches P n → node_credit_out (end_of plan P).link n ≡ Some m → full_node plan rank ahead (end_of plan P).node m + 8 ≡ full_node plan rank ahead (end_of plan P).node n
  credit_out_work (Port.Switch s l) (NodeOf.Switch S) m k e =
      given (switch_credit_out S l) _ m e (λ S' f1 f2. required S.started _ S' f1 (λ started f0. given (step_at S.inputs l input_grant) _ S' f0 (λ ps g1 g2. at_place_made S.inputs l input_grant ps g1 (λ p p' ep h1 h2. given (incoming_grant p.buffer) _ p' h1 (λ b eb h3.
      (let d : NodeOf.Switch (with_inputs S (slice_set S.inputs l (with_buffer p b))) ≡ m = cc in
      let one = grant_work (own plan rank (Port.Switch s l)) (at_own plan rank ahead (Port.Switch s l)) p.buffer b eb in
      let all = input_set s S l p (with_buffer p b) ep in
      subst (λ z. full_node plan rank ahead s z + 8 ≡ full_node plan rank ahead s (NodeOf.Switch S)) d (omega (arith, one, all))))))))
  credit_out_work (Port.Terminal t) (NodeOf.Terminal T) m k e = search (arith, given, grant_work)
  credit_out_work P n m k e = absurd k

  pub credit_in_work : (P : Port) (n m : Node A) → Matches P n → node_credit_in (end_of plan P).link n ≡ Some m → full_node plan rank ahead (end_of plan P).node m ≡ full_node plan rank ahead (end_of plan P).node n
  credit_in_work (Port.Switch s l) (NodeOf.Switch S) m k e =
      given (switch_credit_in S l) _ m e (λ S' f1 f2. given (step_at S.outputs l outgoing_credited) _ S' f1 (λ qs g1 g2. at_place_made S.outputs l outgoing_credited qs g1 (λ q q' eq h1 h2.
      (let d : NodeOf.Switch (with_outputs S (slice_set S.outputs l q')) ≡ m = cc in
      let one = credited_work (far_of plan rank (Port.Switch s l)) (at_far plan rank ahead (Port.Switch s l)) q q' h1 in
      let all = output_set s S l q q' eq in
      subst (λ z. full_node plan rank ahead s z ≡ full_node plan rank ahead s (NodeOf.Switch S)) d (omega (arith, one, all))))))
  credit_in_work (Port.Terminal t) (NodeOf.Terminal T) m k e = search (arith, given, credited_work)
  credit_in_work P n m k e = absurd k

  pub drain_work : (k : ℕ) (n : Node A) (r : A × Node A) → node_drain n ≡ Some r → full_node plan rank ahead k r.1 + 1 ≤ full_node plan rank ahead k n
  drain_work k n r e = grind arith

  module _ (kind : Kind A) (s i : ℕ) where
    abbrev far : ℕ
    far = level plan rank (Some (Port.Switch s i))

    abbrev a : ℕ
    a = ahead (port_of s i)

    -- what is counted in advance with a phase
    abbrev waits : Phase (List A) → ℕ
    waits ph = first_ahead plan rank ahead a ph

    waits_low : (ph : Phase (List A)) → waits ph ≤ a
    waits_low ph = search arith

    -- what is kept of a header after one more token of it
    held_after : (c : ℕ) (t : Settings) (b : List A) → weigh c (header_held (phase_after_header kind t b).0) ≤ weigh c b
    held_after c t b = grind arith

    -- an input after its first token, in any phase that holds no more than this
    used_work : (p : Input A) (x : A) (phase : Phase (List A)) (sunk short : Bool) → p.buffer.items ≡ x ∷ drop 1 p.buffer.items → full_input plan rank ahead s i (input_after_token p phase sunk short) + (8 * far + 2 + a) + weigh (8 * far) (header_held p.phase) + waits p.phase ≤ full_input plan rank ahead s i p + 1 + weigh (8 * far) (header_held phase) + waits phase
    used_work p x phase sunk short e = let one = first_work far a x p.buffer e in omega (arith, one)

    header_work : (t : Settings) (p : Input A) (b : List A) (x : A) → p.buffer.items ≡ x ∷ drop 1 p.buffer.items → header_held p.phase ≡ b → full_input plan rank ahead s i (header_turn kind t p b x) + 1 ≤ full_input plan rank ahead s i p
    header_work t p b x e h = search (arith, used_work, held_after, weigh-append, waits_low, cases_Bool)

    -- a random header that is put is paid by what was counted for it
    random_turn_work : (t : Settings) (word : ℕ) (p : Input A) → p.phase ≡ Fresh → a ≡ header_length t * (8 * far) + 1 → full_input plan rank ahead s i (random_turn kind t word p) + 1 ≤ full_input plan rank ahead s i p
    random_turn_work t word p is pays = grind arith

    -- what an input and the outputs leave
    abbrev pub IsLess : Input A → List (Outgoing A) → Input A × List (Outgoing A) → Type 0
    IsLess p qs r = full_input plan rank ahead s i r.0 + full_outputs plan rank ahead s r.1 + 1 ≤ full_input plan rank ahead s i p + full_outputs plan rank ahead s qs

    pub turn_work : (S : Switch A) (t : Settings) (word : ℕ) (p : Input A) (x : A) (r : Input A × List (Outgoing A)) (ph : Phase (List A)) → (t.randomize ≡ true → a ≡ header_length t * (8 * far) + 1) → ((o : ℕ) → ph ≡ Stream o → (far_of plan rank (Port.Switch s o) + 1 ≤ far) × (at_far plan rank ahead (Port.Switch s o) ≡ 0)) → p.phase ≡ ph → p.buffer.items ≡ x ∷ drop 1 p.buffer.items → turn_by_phase kind t word p S.outputs ph x ≡ Some r → IsLess p S.outputs r
    turn_work S t word p x r Fresh puts falls is items e = search (arith, random_turn_work, and_parts, header_work)
    turn_work S t word p x r (Head b) puts falls is items e = search (arith, header_work)
    turn_work S t word p x r (Want b g) puts falls is items e = absurd (cc)
    turn_work S t word p x r (Stream o) puts falls is items e = given (step_at S.outputs o (outgoing_put x)) _ r e (λ rs f1 f2. at_place_made S.outputs o (outgoing_put x) rs f1 (λ q q' eq g d1. required (nat_lt (length q.items) 8) _ q' g (λ h g2.
        (let p' = input_after_token p (phase_after_token kind x (Stream o)) false false in
        let came : record { items = q.items ++ x ∷ []; credit = q.credit } ≡ q' = cc in
        let d : (p', slice_set S.outputs o q') ≡ r = cc in
        let one = used_work p x (phase_after_token kind x (Stream o)) false false items in
        let held : weigh (8 * far) (header_held (phase_after_token kind x (Stream o))) ≡ 0 = no_header x (Stream o) refl in
        let none : weigh (8 * far) (header_held p.phase) ≡ 0 = ap (λ z. weigh (8 * far) (header_held z)) is in
        let all = output_set s S o q q' eq in
        let more : full_link plan rank ahead s o q' ≡ full_link plan rank ahead s o q + (8 * far_of plan rank (Port.Switch s o) + 4 + at_far plan rank ahead (Port.Switch s o)) = sym (ap (λ (z : Outgoing A). full_link plan rank ahead s o z) came) ∙ weigh-append (8 * far_of plan rank (Port.Switch s o) + 4 + at_far plan rank ahead (Port.Switch s o)) q.items (x ∷ []) ∙ omega arith in
        let know = falls o refl in
        subst (IsLess p S.outputs) d (omega (arith, one, held, none, all, more, know.0, know.1, waits_low (phase_after_token kind x (Stream o))))))))
      where
        no_header : (x : A) (ph : Phase (List A)) → header_held ph ≡ [] → weigh (8 * far) (header_held (phase_after_token kind x ph)) ≡ 0
        no_header x ph h = ⊎_elim (λ (m : is_end (kind.plain x) ≡ true). rw m refl) (λ (m : is_end (kind.plain x) ≡ false). rw (m, h) refl) (cases_Bool (is_end (kind.plain x)))
    turn_work S t word p x r Sinking puts falls is items e = search (arith, used_work, cases_Bool, waits_low)

    pub claim_work : (S : Switch A) (o : ℕ) (p : Input A) (r : Input A × List (Outgoing A)) (ph : Phase (List A)) → ((b : List A) (g : ℕ) → ph ≡ Want b g → is_in_group S.settings g o ≡ true → (0 < length b) × (far_of plan rank (Port.Switch s o) + 1 ≤ far) × (at_far plan rank ahead (Port.Switch s o) ≡ 0)) → p.phase ≡ ph → input_claim S.settings p S.outputs o ph ≡ Some r → IsLess p S.outputs r
    claim_work S o p r (Want b g) falls is e = required (is_in_group S.settings g o) _ r e (λ group f0. given (slice_get S.settings o) _ r f0 (λ t et f1. given (step_at S.outputs o (put_header t b)) _ r f1 (λ rs f2 f3. at_place_made S.outputs o (put_header t b) rs f2 (λ q q' eq put d1.
        (let d : (streaming_input p o, slice_set S.outputs o q') ≡ r = cc in
        let know = falls b g refl group in
        let all = output_set s S o q q' eq in
        let held : weigh (8 * far) (header_held p.phase) ≡ weigh (8 * far) b = ap (λ z. weigh (8 * far) (header_held z)) is in
        let more = put_work t b q q' put in
        let less = weigh_less (8 * far_of plan rank (Port.Switch s o) + 4 + at_far plan rank ahead (Port.Switch s o)) (8 * far) b (omega (arith, know.1, know.2)) know.0 in
        subst (IsLess p S.outputs) d (omega (arith, all, held, more, less)))))))
      where
        put_work : (t : Settings) (b : List A) (q q' : Outgoing A) → put_header t b q ≡ Some q' → full_link plan rank ahead s o q' ≤ full_link plan rank ahead s o q + weigh (8 * far_of plan rank (Port.Switch s o) + 4 + at_far plan rank ahead (Port.Switch s o)) b
        put_work t b q q' e = ⊎_elim
            (λ (m : t.delete_header ≡ true). (let f : Some q ≡ Some q' = rw m at e in let d : q ≡ q' = cc in subst (λ z. full_link plan rank ahead s o z ≤ full_link plan rank ahead s o q + weigh (8 * far_of plan rank (Port.Switch s o) + 4 + at_far plan rank ahead (Port.Switch s o)) b) d (omega arith)))
            (λ (m : t.delete_header ≡ false). (let f : outgoing_put_all b q ≡ Some q' = rw m at e in required (nat_le (length q.items + length b) 8) _ q' f (λ h g2.
            (let came : record { items = q.items ++ b; credit = q.credit } ≡ q' = cc in
            let heavy = weigh-append (8 * far_of plan rank (Port.Switch s o) + 4 + at_far plan rank ahead (Port.Switch s o)) q.items b in
            subst (λ z. full_link plan rank ahead s o z ≤ full_link plan rank ahead s o q + weigh (8 * far_of plan rank (Port.Switch s o) + 4 + at_far plan rank ahead (Port.Switch s o)) b) came (omega (arith, heavy))))))
            (cases_Bool t.delete_header)
    claim_work S o p r ph falls is e = absurd (cc)
