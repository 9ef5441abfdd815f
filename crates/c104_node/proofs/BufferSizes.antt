-- No act changes how large a node's buffers are.
use Rattle.c104_control.specs.{Reading.read_command, declared.commands.Command.{Command, TheVariants.{Reset, Start}}}
use Rattle.c104_control.specs.declared.{faults.CommandFault.CommandFault, replies.Answer.{Answer, TheVariants.{Refused, Started}}}
use Rattle.{c104_control.specs.declared.replies.TheConstants.ALREADY_STARTED, c104_link.proofs.MadeSteps.{All-at_place, All-place, given}}
use Rattle.c104_link.{proofs.MadeSteps.{required, with_place_made}, specs.Buffers.{Incoming, Outgoing, incoming_accept, incoming_grant}}
use Rattle.c104_link.specs.{Buffers.{outgoing_credited, outgoing_emit, outgoing_put, without_first}, Steps.{joint_step_at, step_at}}
use Rattle.{c104_link.specs.Steps.{yield_step_at, ◌>>=◌}, c104_node.specs.{Acts.{done_by, node_act, token_by}, Nodes.{Node, is_switch}}}
use Rattle.c104_node.specs.{Records.{HasCap, IsNodeRun}, Starts.{start_node, start_of}, Terminals.{Terminal, terminal_credit_in}}
use Rattle.c104_node.specs.Terminals.{terminal_credit_out, terminal_drain, terminal_enter, terminal_leave, terminal_send, with_input}
use Rattle.c104_node.specs.{Terminals.with_output, declared.{acts.{ActOf.ActOf, Entry.Entry}, node.NodeOf.NodeOf}}
use Rattle.{c104_node.specs.declared.starts.NodeStart.NodeStart, c104_regs.specs.declared.settings.Settings.Settings}
use Rattle.c104_switch.specs.{Actions.Reply, Claims.{input_claim, inputs_claim, put_header, streaming_input, switch_claim}}
use Rattle.c104_switch.specs.{Commands.input_reset, Control.{switch_control, switch_obey, switch_obey_if_read}, Group.is_in_group}
use Rattle.c104_switch.specs.{Starts.{link_starts, start_input}, Switch.{Input, Switch, input_accept, input_grant, is_owned}}
use Rattle.c104_switch.specs.Switch.{switch_credit_in, switch_credit_out, switch_enter, switch_leave, with_buffer, with_inputs}
use Rattle.c104_switch.specs.{Switch.{with_outputs, with_sides}, Turns.{header_turn, input_turn, inputs_turn, random_turn, switch_input}}
use Rattle.c104_switch.specs.{Turns.turn_by_phase, declared.{actions.{ActionOf.ActionOf, ReplyOf.ReplyOf}, link_start.LinkStart.LinkStart}}
use Rattle.c104_switch.specs.declared.phase.Phase.{Phase, TheVariants.{Fresh, Head, Sinking, Stream, Want}}
use Rattle.{c104_token.specs.{Kinds.plain_kind, Tokens.is_end, declared.tokens.Token.Token}, std.proofs.Common.{All, Bool, Err, List, None}}
use Rattle.std.proofs.Common.{Ok, Option, Result, Some, [], ap, false, if◌then◌else◌, length, map, nat_le, nat_lt, not, refl, slice_get}
use Rattle.std.proofs.{Common.{subst, sym, true, ℕ, ◌&&◌, ◌++◌, ◌+◌, ◌-◌, ◌∙◌, ◌∷◌, ◌≡◌}, lemmas.List.Elements.{All-cons, All-head}}
use Rattle.std.proofs.lemmas.List.Elements.{All-nil, All-set, All-tail}

-- each input buffer of a node has room for this number of tokens
abbrev pub IsSized : ℕ → Node Token → Type 0
IsSized cap (NodeOf.Switch s) = All (λ (p : Input Token). p.buffer.cap ≡ cap) s.inputs
IsSized cap (NodeOf.Terminal t) = t.input.cap ≡ cap

module _ (cap : ℕ) where
  abbrev HasSize : Input Token → Type 0
  HasSize p = p.buffer.cap ≡ cap

  -- at a start, and where a node stands
  inputs_start : (ls : List LinkStart) → All (λ (l : LinkStart). l.cap ≡ cap) ls → All HasSize (map start_input ls)
  inputs_start [] all = All-nil HasSize
  inputs_start (l ∷ ls) all = All-cons HasSize (start_input l) (map start_input ls) (All-head (λ (l : LinkStart). l.cap ≡ cap) l ls all) (inputs_start ls (All-tail (λ (l : LinkStart). l.cap ≡ cap) l ls all))

  pub start_sized : (s : NodeStart) → HasCap cap s → IsSized cap (start_node s)
  start_sized (NodeStart.Switch s) sized = inputs_start s.links sized
  start_sized (NodeStart.Terminal t) sized = sized

  links_sized : (ps : List (Input Token)) (qs : List (Outgoing Token)) → All HasSize ps → All (λ (l : LinkStart). l.cap ≡ cap) (link_starts ps qs)
  links_sized [] qs all = All-nil (λ (l : LinkStart). l.cap ≡ cap)
  links_sized (p ∷ ps) [] all = All-nil (λ (l : LinkStart). l.cap ≡ cap)
  links_sized (p ∷ ps) (q ∷ qs) all = All-cons (λ (l : LinkStart). l.cap ≡ cap) _ (link_starts ps qs) (All-head HasSize p ps all) (links_sized ps qs (All-tail HasSize p ps all))

  pub sized_start : (n : Node Token) → IsSized cap n → HasCap cap (start_of n)
  sized_start (NodeOf.Switch s) sized = links_sized s.inputs s.outputs sized
  sized_start (NodeOf.Terminal t) sized = sized

-- no step changes the size of an input's buffer
accepted_size : (x : Token) (b c : Incoming Token) → incoming_accept x b ≡ Some c → c.cap ≡ b.cap
accepted_size x b c is = required (nat_lt 0 b.granted) _ c is (λ may made. let set : record { cap = b.cap; items = b.items ++ x ∷ []; granted = b.granted - 1 } ≡ c = cc in ap (λ (d : Incoming Token). d.cap) (sym set))

granted_size : (b c : Incoming Token) → incoming_grant b ≡ Some c → c.cap ≡ b.cap
granted_size b c is = required (nat_le (length b.items + b.granted + 8) b.cap) _ c is (λ may made. let set : record { cap = b.cap; items = b.items; granted = b.granted + 8 } ≡ c = cc in ap (λ (d : Incoming Token). d.cap) (sym set))

buffer_size : (p q : Input Token) (made : Option (Incoming Token)) → ((c : Incoming Token) → made ≡ Some c → c.cap ≡ p.buffer.cap) → made >>= (λ b. Some (with_buffer p b)) ≡ Some q → q.buffer.cap ≡ p.buffer.cap
buffer_size p q made same is = given made _ q is (λ b came last. let set : with_buffer p b ≡ q = cc in ap (λ (r : Input Token). r.buffer.cap) (sym set) ∙ same b came)

abbrev Sides : Type 0
Sides = Input Token × List (Outgoing Token)

module _ (t : Settings) (word : ℕ) (p : Input Token) (qs : List (Outgoing Token)) (y : Sides) where
  either_size : (b : Bool) (u v : Input Token) → u.buffer.cap ≡ p.buffer.cap → v.buffer.cap ≡ p.buffer.cap → (if b then u else v).buffer.cap ≡ p.buffer.cap
  either_size true u v one two = one
  either_size false u v one two = two

  same_size : (u : Input Token) (rs : List (Outgoing Token)) → u.buffer.cap ≡ p.buffer.cap → ◌≡◌ {A = Option Sides} (Some (u, rs)) (Some y) → y.0.buffer.cap ≡ p.buffer.cap
  same_size u rs one is = let same : (u, rs) ≡ y = cc in ap (λ (r : Sides). r.0.buffer.cap) (sym same) ∙ one

  header_size : (b : List Token) (x : Token) → (header_turn plain_kind t p b x).buffer.cap ≡ p.buffer.cap
  header_size b x = either_size (is_end x) _ _ refl refl

  fresh_size : (random : Bool) (u v : Input Token) → u.buffer.cap ≡ p.buffer.cap → v.buffer.cap ≡ p.buffer.cap → ◌≡◌ {A = Option Sides} (if random then Some (u, qs) else Some (v, qs)) (Some y) → y.0.buffer.cap ≡ p.buffer.cap
  fresh_size true u v one two is = same_size u qs one is
  fresh_size false u v one two is = same_size v qs two is

  phase_size : (phase : Phase (List Token)) (x : Token) → turn_by_phase plain_kind t word p qs phase x ≡ Some y → y.0.buffer.cap ≡ p.buffer.cap
  phase_size Fresh x is = fresh_size (t.randomize && not (is_end x)) (random_turn plain_kind t word p) (header_turn plain_kind t p [] x) refl (header_size [] x) is
  phase_size (Head b) x is = same_size (header_turn plain_kind t p b x) qs (header_size b x) is
  phase_size (Want b g) x is = cc
  phase_size (Stream o) x is = given (step_at qs o (outgoing_put x)) _ y is (λ rs put last. same_size _ rs refl last)
  phase_size Sinking x is = same_size _ qs refl is

  turn_size : input_turn plain_kind t word p qs ≡ Some y → y.0.buffer.cap ≡ p.buffer.cap
  turn_size is = given (slice_get p.buffer.items 0) _ y is (λ x first more. phase_size p.phase x more)

claim_size : (settings : List Settings) (p : Input Token) (qs : List (Outgoing Token)) (o : ℕ) (phase : Phase (List Token)) (y : Sides) → input_claim settings p qs o phase ≡ Some y → y.0.buffer.cap ≡ p.buffer.cap
claim_size settings p qs o (Want b g) y is = required (is_in_group settings g o) _ y is (λ joined more. given (slice_get settings o) _ y more (λ t own most. given (step_at qs o (put_header t b)) _ y most (λ rs made last.
    let same : (streaming_input p o, rs) ≡ y = cc in ap (λ (r : Sides). r.0.buffer.cap) (sym same))))
claim_size settings p qs o phase y is = absurd (cc)

-- so no act does
module _ (cap : ℕ) where
  joint_sized : (ps : List (Input Token)) (i : ℕ) (f : Input Token → Option Sides) (r : List (Input Token) × List (Outgoing Token)) → joint_step_at ps i f ≡ Some r → ((p : Input Token) (y : Sides) → f p ≡ Some y → y.0.buffer.cap ≡ p.buffer.cap) → All (HasSize cap) ps → All (HasSize cap) r.0
  joint_sized ps i f r is same all = with_place_made ps i f r is (λ p y here made set.
      let one : HasSize cap y.0 = same p y made ∙ All-place (HasSize cap) ps i p here all in
      subst (λ (s : List (Input Token) × List (Outgoing Token)). All (HasSize cap) s.0) set (All-set (HasSize cap) ps i y.0 one all))

  reset_sized : (ps : List (Input Token)) → All (HasSize cap) ps → All (HasSize cap) (map input_reset ps)
  reset_sized [] all = All-nil (HasSize cap)
  reset_sized (p ∷ ps) all = All-cons (HasSize cap) (input_reset p) (map input_reset ps) (All-head (HasSize cap) p ps all) (reset_sized ps (All-tail (HasSize cap) p ps all))

  module _ (s : Switch Token) (sized : All (HasSize cap) s.inputs) where
    started_sized : (b : Bool) (again first : Answer) → All (HasSize cap) (if◌then◌else◌ {A = Answer × Switch Token} b (again, s) (first, record s { started = true })).1.inputs
    started_sized true again first = sized
    started_sized false again first = sized

    obeyed_sized : (c : Command) → All (HasSize cap) (switch_obey s c).1.inputs
    obeyed_sized Start = started_sized s.started (Refused ALREADY_STARTED) Started
    obeyed_sized Reset = reset_sized s.inputs sized
    obeyed_sized c = sized

    read_sized : (c : Result Command CommandFault) → All (HasSize cap) (switch_obey_if_read s c).1.inputs
    read_sized (Ok c) = obeyed_sized c
    read_sized (Err e) = sized

    made_sized : (f : Input Token → Option (Input Token)) (l : ℕ) (ps : List (Input Token)) → step_at s.inputs l f ≡ Some ps → ((p q : Input Token) → f p ≡ Some q → q.buffer.cap ≡ p.buffer.cap) → All (HasSize cap) ps
    made_sized f l ps is same = All-at_place (HasSize cap) s.inputs l f ps is (λ p q made one. same p q made ∙ one) sized

  -- a node stays of its kind, and its buffers of their size
  abbrev Keeps : Node Token → Node Token → Type 0
  Keeps n m = (is_switch m ≡ is_switch n) × (IsSized cap n → IsSized cap m)

  module _ (r : Reply) (m : Node Token) where
    -- what a step of a switch or a terminal leaves, and one that gives a token
    done_keeps : {S : Type 0} (put : S → Node Token) (n : Node Token) (made : Option S) → ((s : S) → is_switch (put s) ≡ is_switch n) → ((s : S) → made ≡ Some s → IsSized cap n → IsSized cap (put s)) → done_by (made >>= (λ s. Some (put s))) ≡ Some (r, m) → Keeps n m
    done_keeps put n None kept keeps is = absurd (cc)
    done_keeps put n (Some s) kept keeps is = let both : ◌≡◌ {A = Reply × Node Token} (ReplyOf.Done, put s) (r, m) = cc in subst (λ (p : Reply × Node Token). Keeps n p.1) both (kept s, keeps s refl)

    token_keeps : {S : Type 0} (put : S → Node Token) (n : Node Token) (made : Option (Token × S)) → ((s : S) → is_switch (put s) ≡ is_switch n) → ((v : Token × S) → made ≡ Some v → IsSized cap n → IsSized cap (put v.1)) → token_by (made >>= (λ v. Some (v.0, put v.1))) ≡ Some (r, m) → Keeps n m
    token_keeps put n None kept keeps is = absurd (cc)
    token_keeps put n (Some v) kept keeps is = let both : ◌≡◌ {A = Reply × Node Token} (ReplyOf.Token v.0, put v.1) (r, m) = cc in subst (λ (p : Reply × Node Token). Keeps n p.1) both (kept v.1, keeps v refl)

    act_keeps : (number : ℕ) (a : ActOf Token) (n : Node Token) → node_act plain_kind number a n ≡ Some (r, m) → Keeps n m
    act_keeps number (ActOf.Step (ActionOf.Enter l x)) (NodeOf.Switch s) is =
        done_keeps NodeOf.Switch (NodeOf.Switch s) (switch_enter s l x) (λ s. refl) (λ s' made sized. given (step_at s.inputs l (input_accept x)) _ s' made (λ ps stepped last.
        let set : with_inputs s ps ≡ s' = cc in
        subst (λ (v : Switch Token). All (HasSize cap) v.inputs) set (made_sized s sized (input_accept x) l ps stepped (λ p q came. buffer_size p q (incoming_accept x p.buffer) (accepted_size x p.buffer) came)))) is
    act_keeps number (ActOf.Step (ActionOf.Leave l)) (NodeOf.Switch s) is =
        token_keeps NodeOf.Switch (NodeOf.Switch s) (switch_leave s l) (λ s. refl) (λ v made sized. given (yield_step_at s.outputs l outgoing_emit) _ v made (λ y stepped last.
        let set : (y.0, with_outputs s y.1) ≡ v = cc in
        subst (λ (w : Token × Switch Token). All (HasSize cap) w.1.inputs) set sized)) is
    act_keeps number (ActOf.Step (ActionOf.CreditOut l)) (NodeOf.Switch s) is =
        done_keeps NodeOf.Switch (NodeOf.Switch s) (switch_credit_out s l) (λ s. refl) (λ s' made sized. required s.started _ s' made (λ on more. given (step_at s.inputs l input_grant) _ s' more (λ ps stepped last.
        let set : with_inputs s ps ≡ s' = cc in
        subst (λ (v : Switch Token). All (HasSize cap) v.inputs) set (made_sized s sized input_grant l ps stepped (λ p q came. buffer_size p q (incoming_grant p.buffer) (granted_size p.buffer) came))))) is
    act_keeps number (ActOf.Step (ActionOf.CreditIn l)) (NodeOf.Switch s) is =
        done_keeps NodeOf.Switch (NodeOf.Switch s) (switch_credit_in s l) (λ s. refl) (λ s' made sized. given (step_at s.outputs l outgoing_credited) _ s' made (λ qs stepped last.
        let set : with_outputs s qs ≡ s' = cc in
        subst (λ (v : Switch Token). All (HasSize cap) v.inputs) set sized)) is
    act_keeps number (ActOf.Step (ActionOf.Input l word)) (NodeOf.Switch s) is =
        done_keeps NodeOf.Switch (NodeOf.Switch s) (switch_input plain_kind s l word) (λ s. refl) (λ s' made sized. required s.started _ s' made (λ on more. given (slice_get s.settings l) _ s' more (λ t own most. given (inputs_turn plain_kind t word s.inputs s.outputs l) _ s' most (λ y turned last.
        let set : with_sides s y ≡ s' = cc in
        subst (λ (v : Switch Token). All (HasSize cap) v.inputs) set (joint_sized s.inputs l (λ p. input_turn plain_kind t word p s.outputs) y turned (λ p z took. turn_size t word p s.outputs z took) sized))))) is
    act_keeps number (ActOf.Step (ActionOf.Claim i o)) (NodeOf.Switch s) is =
        done_keeps NodeOf.Switch (NodeOf.Switch s) (switch_claim s i o) (λ s. refl) (λ s' made sized. required s.started _ s' made (λ on more. given (inputs_claim s.settings s.inputs s.outputs i o) _ s' more (λ y claimed last.
        let set : with_sides s y ≡ s' = cc in
        subst (λ (v : Switch Token). All (HasSize cap) v.inputs) set (required (not (is_owned s.inputs o)) _ y claimed (λ free rest.
        joint_sized s.inputs i (λ p. input_claim s.settings p s.outputs o p.phase) y rest (λ p z took. claim_size s.settings p s.outputs o p.phase z took) sized))))) is
    act_keeps number (ActOf.Step (ActionOf.Control bytes)) (NodeOf.Switch s) is =
        let v = switch_control s bytes in
        let both : ◌≡◌ {A = Reply × Node Token} (ReplyOf.Control v.0, NodeOf.Switch v.1) (r, m) = cc in
        subst (λ (p : Reply × Node Token). Keeps (NodeOf.Switch s) p.1) both (refl, λ sized. read_sized s sized (read_command bytes))
    act_keeps number (ActOf.Send packet) (NodeOf.Terminal t) is =
        let both : ◌≡◌ {A = Reply × Node Token} (ReplyOf.Done, NodeOf.Terminal (terminal_send plain_kind number packet t)) (r, m) = cc in
        subst (λ (p : Reply × Node Token). Keeps (NodeOf.Terminal t) p.1) both (refl, λ sized. sized)
    act_keeps number ActOf.Drain (NodeOf.Terminal t) is =
        token_keeps NodeOf.Terminal (NodeOf.Terminal t) (terminal_drain t) (λ s. refl) (λ v made sized. given (slice_get t.input.items 0) _ v made (λ x first last.
        let set : (x, record t { input = without_first t.input; arrived = t.arrived ++ x ∷ [] }) ≡ v = cc in
        subst (λ (w : Token × Terminal Token). w.1.input.cap ≡ cap) set sized)) is
    act_keeps number ActOf.Leave (NodeOf.Terminal t) is =
        token_keeps NodeOf.Terminal (NodeOf.Terminal t) (terminal_leave t) (λ s. refl) (λ v made sized. given (outgoing_emit t.output) _ v made (λ y went last.
        let set : (y.0, with_output t y.1) ≡ v = cc in
        subst (λ (w : Token × Terminal Token). w.1.input.cap ≡ cap) set sized)) is
    act_keeps number (ActOf.Enter x) (NodeOf.Terminal t) is =
        done_keeps NodeOf.Terminal (NodeOf.Terminal t) (terminal_enter x t) (λ s. refl) (λ t' made sized. given (incoming_accept x t.input) _ t' made (λ b came last.
        let set : with_input t b ≡ t' = cc in
        subst (λ (v : Terminal Token). v.input.cap ≡ cap) set (accepted_size x t.input b came ∙ sized))) is
    act_keeps number ActOf.CreditOut (NodeOf.Terminal t) is =
        done_keeps NodeOf.Terminal (NodeOf.Terminal t) (terminal_credit_out t) (λ s. refl) (λ t' made sized. given (incoming_grant t.input) _ t' made (λ b came last.
        let set : with_input t b ≡ t' = cc in
        subst (λ (v : Terminal Token). v.input.cap ≡ cap) set (granted_size t.input b came ∙ sized))) is
    act_keeps number ActOf.CreditIn (NodeOf.Terminal t) is =
        done_keeps NodeOf.Terminal (NodeOf.Terminal t) (terminal_credit_in t) (λ s. refl) (λ t' made sized. given (outgoing_credited t.output) _ t' made (λ q came last.
        let set : with_output t q ≡ t' = cc in
        subst (λ (v : Terminal Token). v.input.cap ≡ cap) set sized)) is
    act_keeps number a n is = absurd (cc)

  -- so does a run
  pub run_keeps : (wired : ℕ) (from to : Node Token) (entries : List Entry) → IsNodeRun wired from entries to → Keeps from to
  run_keeps wired from to [] run = (ap is_switch run, λ sized. subst (IsSized cap) (sym run) sized)
  run_keeps wired from to (e ∷ entries) run =
      let first = act_keeps e.reply run.0 0 e.act from run.2 in
      let rest = run_keeps wired run.0 to entries run.3 in
      (rest.0 ∙ first.0, λ sized. rest.1 (first.1 sized))
