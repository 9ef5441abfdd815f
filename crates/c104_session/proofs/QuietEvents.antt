-- A network that is quiet stays so by each event but one that sends a packet: all that is done in it are grants, and commands
-- that change nothing.
use Rattle.{c104_check.specs.Routes.Routes, c104_control.specs.Reading.read_command, c104_event.specs.declared.events.Event.Event}
use Rattle.c104_link.proofs.MadeSteps.{All-at_place, All-place, at_place_made, from_place_made, given, required, with_place_made}
use Rattle.c104_link.specs.{Buffers.{Incoming, Outgoing, incoming_grant, outgoing_credited, outgoing_emit}, Steps.{joint_step_at, step_at}}
use Rattle.{c104_link.specs.Steps.yield_step_at, c104_net.{proofs.CommandEvents.read_sides, specs.Unchanged.{IsHarmless, MayHappen}}}
use Rattle.c104_node.{proofs.NamedWires.{nodes_credit, nodes_cross}, specs.Nodes.{Node, node_claim, node_control, node_credit_in}}
use Rattle.c104_node.specs.{Nodes.{node_credit_out, node_drain, node_input, node_leave}, Quiet.{IsQuietInput, IsQuietNode, IsQuietOutput}}
use Rattle.{c104_node.specs.{Quiet.IsQuietSwitch, declared.node.NodeOf.NodeOf}, c104_plan.specs.{Plans.{IsPlan, Plan}, Wiring.peer}}
use Rattle.{c104_plan.specs.declared.ports.Port.Port, c104_regs.specs.declared.settings.Settings.Settings}
use Rattle.c104_run.proofs.EventSteps.{claim_named, control_named, credit_named, cross_named, drain_named, input_named}
use Rattle.c104_run.specs.{Balance.AreInPlace, Ends.end_of, Network.{Network, network_of, network_step}}
use Rattle.{c104_session.specs.PrintedPackets.event_sends, c104_switch.specs.{Actions.Reply, Claims.{input_claim, inputs_claim}}}
use Rattle.c104_switch.specs.{Claims.switch_claim, Control.switch_control, Switch.{Input, input_grant, is_owned, switch_credit_in}}
use Rattle.c104_switch.specs.{Switch.{switch_credit_out, switch_leave, with_sides}, Turns.{input_turn, switch_input}}
use Rattle.{c104_switch.specs.declared.{actions.ReplyOf.ReplyOf, phase.Phase.{Phase, TheVariants.Fresh}}, c104_token.specs.Kinds.Kind}
use Rattle.std.proofs.Common.{All, List, None, Option, Some, [], ap, arith, length, nat_le, not, slice_get, slice_set, subst, sym, ℕ, ◌+◌}
use Rattle.std.proofs.{Common.{◌∙◌, ◌≡◌}, lemmas.{List.Elements.All-set, Option.some_pair_parts}}

module _ {A : Type 0} where
  no_first : (items : List A) (x : A) → items ≡ [] → slice_get items 0 ≡ Some x → ⊥
  no_first items x none is = search arith

  -- a quiet node has no token that goes out, or arrives
  no_leave : (l : ℕ) (n : Node A) (y : A × Node A) → IsQuietNode n → node_leave l n ≡ Some y → ⊥
  no_leave l (NodeOf.Switch S) y quiet is =
      given (switch_leave S l) _ y is (λ v left more.
      given (yield_step_at S.outputs l outgoing_emit) _ v left (λ w made last.
      from_place_made S.outputs l outgoing_emit w made (λ q z here gone set.
      given (slice_get q.items 0) _ z gone (λ x first rest. no_first q.items x (All-place IsQuietOutput S.outputs l q here quiet.1) first))))
  no_leave l (NodeOf.Terminal T) y quiet is = search (arith, given, no_first)

  no_drain : (n : Node A) (y : A × Node A) → IsQuietNode n → node_drain n ≡ Some y → ⊥
  no_drain n y quiet is = search (arith, given, no_first)

  -- none that an input reads, and no header that waits for a claim
  no_turn : (kind : Kind A) (i word : ℕ) (n m : Node A) → IsQuietNode n → node_input kind i word n ≡ Some m → ⊥
  no_turn kind i word (NodeOf.Terminal T) m quiet is = cc
  no_turn kind i word (NodeOf.Switch S) m quiet is =
      given (switch_input kind S i word) _ m is (λ S' made d0.
      required S.started _ S' made (λ h f1.
      given (slice_get S.settings i) _ S' f1 (λ t et f2.
      given (joint_step_at S.inputs i (λ p. input_turn kind t word p S.outputs)) _ S' f2 (λ v ev f3.
      with_place_made S.inputs i (λ p. input_turn kind t word p S.outputs) v ev (λ p y ep ey d1.
      given (slice_get p.buffer.items 0) _ y ey (λ x first f4. no_first p.buffer.items x (All-place IsQuietInput S.inputs i p ep quiet.0).0 first))))))

  unclaimed : (settings : List Settings) (p : Input A) (qs : List (Outgoing A)) (o : ℕ) (phase : Phase (List A)) (y : Input A × List (Outgoing A)) → phase ≡ Fresh → input_claim settings p qs o phase ≡ Some y → ⊥
  unclaimed settings p qs o phase y fresh is = let none : ◌≡◌ {A = Option (Input A × List (Outgoing A))} None (Some y) = sym (ap (input_claim settings p qs o) fresh) ∙ is in cc

  no_claim : (i o : ℕ) (n m : Node A) → IsQuietNode n → node_claim i o n ≡ Some m → ⊥
  no_claim i o (NodeOf.Terminal T) m quiet is = cc
  no_claim i o (NodeOf.Switch S) m quiet is =
      given (switch_claim S i o) _ m is (λ S' made d0.
      required S.started _ S' made (λ h f1.
      given (inputs_claim S.settings S.inputs S.outputs i o) _ S' f1 (λ v ev f3.
      required (not (is_owned S.inputs o)) _ v ev (λ free f4.
      with_place_made S.inputs i (λ p. input_claim S.settings p S.outputs o p.phase) v f4 (λ p y ep ey d1.
      unclaimed S.settings p S.outputs o p.phase y (All-place IsQuietInput S.inputs i p ep quiet.0).1 ey)))))

  -- a grant moves no token
  grant_items : (b c : Incoming A) → incoming_grant b ≡ Some c → c.items ≡ b.items
  grant_items b c is = required (nat_le (length b.items + b.granted + 8) b.cap) _ c is (λ h made. (let d : record { cap = b.cap; items = b.items; granted = b.granted + 8 } ≡ c = cc in sym (ap (λ (z : Incoming A). z.items) d)))

  credited_items : (q r : Outgoing A) → outgoing_credited q ≡ Some r → r.items ≡ q.items
  credited_items q r is = required (nat_le (q.credit + 8) 64) _ r is (λ h made. (let d : record { items = q.items; credit = q.credit + 8 } ≡ r = cc in sym (ap (λ (z : Outgoing A). z.items) d)))

  credit_out_quiet : (l : ℕ) (n m : Node A) → node_credit_out l n ≡ Some m → IsQuietNode n → IsQuietNode m
  credit_out_quiet l (NodeOf.Switch S) m is quiet =
      given (switch_credit_out S l) _ m is (λ S' f1 f2. required S.started _ S' f1 (λ started f0. given (step_at S.inputs l input_grant) _ S' f0 (λ ps g1 g2. at_place_made S.inputs l input_grant ps g1 (λ p p' ep h1 h2. given (incoming_grant p.buffer) _ p' h1 (λ b eb h3.
      (let d : NodeOf.Switch (with_sides S (slice_set S.inputs l (record p { buffer = b }), S.outputs)) ≡ m = cc in
      let was : IsQuietInput p = All-place IsQuietInput S.inputs l p ep quiet.0 in
      subst IsQuietNode d (All-set IsQuietInput S.inputs l (record p { buffer = b }) (grant_items p.buffer b eb ∙ was.0, was.1) quiet.0, quiet.1)))))))
  credit_out_quiet l (NodeOf.Terminal T) m is quiet = search (arith, given, grant_items)

  credit_in_quiet : (l : ℕ) (n m : Node A) → node_credit_in l n ≡ Some m → IsQuietNode n → IsQuietNode m
  credit_in_quiet l (NodeOf.Switch S) m is quiet =
      given (switch_credit_in S l) _ m is (λ S' f1 f2. given (step_at S.outputs l outgoing_credited) _ S' f1 (λ qs g1 g2. at_place_made S.outputs l outgoing_credited qs g1 (λ q r eq h1 h2.
      (let d : NodeOf.Switch (with_sides S (S.inputs, slice_set S.outputs l r)) ≡ m = cc in
      subst IsQuietNode d (quiet.0, All-set IsQuietOutput S.outputs l r (credited_items q r h1 ∙ All-place IsQuietOutput S.outputs l q eq quiet.1) quiet.1)))))
  credit_in_quiet l (NodeOf.Terminal T) m is quiet = search (arith, given, credited_items)

module _ {A : Type 0} (kind : Kind A) (plan : Plan) (is_plan : IsPlan plan) (nodes : List (Node A)) (placed : AreInPlace plan nodes) (quiet : All IsQuietNode nodes) (r : Reply) (next : Network A) where
  abbrev Step : Event → Type 0
  Step e = network_step kind (network_of plan nodes) e ≡ Some (r, next)

  abbrev StaysQuiet : Type 0
  StaysQuiet = All IsQuietNode next.nodes

  quiet_at : (k : ℕ) (n : Node A) → slice_get nodes k ≡ Some n → IsQuietNode n
  quiet_at k n here = All-place IsQuietNode nodes k n here quiet

  crossed : (P : Port) → Step (Event.Cross P) → StaysQuiet
  crossed P is =
      given (peer plan P) _ (r, next) (cross_named kind (network_of plan nodes) is_plan placed P ∙ is) (λ Q eQ e1.
      given (nodes_cross nodes (end_of plan P) (end_of plan Q)) _ (r, next) e1 (λ c ec e2.
      given (yield_step_at nodes (end_of plan P).node (node_leave (end_of plan P).link)) _ c ec (λ v ev f1.
      from_place_made nodes (end_of plan P).node (node_leave (end_of plan P).link) v ev (λ n y en ey hv. absurd (no_leave (end_of plan P).link n y (quiet_at (end_of plan P).node n en) ey)))))

  granted : (P : Port) → Step (Event.Credit P) → StaysQuiet
  granted P is =
      given (peer plan P) _ (r, next) (credit_named kind (network_of plan nodes) is_plan placed P ∙ is) (λ Q eQ e1.
      given (nodes_credit nodes (end_of plan P) (end_of plan Q)) _ (r, next) e1 (λ after ec e2.
      given (step_at nodes (end_of plan P).node (node_credit_out (end_of plan P).link)) _ after ec (λ mid ev f1.
      (let first : All IsQuietNode mid = All-at_place IsQuietNode nodes (end_of plan P).node (node_credit_out (end_of plan P).link) mid ev (credit_out_quiet (end_of plan P).link) quiet in
      let second : All IsQuietNode after = All-at_place IsQuietNode mid (end_of plan Q).node (node_credit_in (end_of plan Q).link) after f1 (credit_in_quiet (end_of plan Q).link) first in
      let same : network_of plan after ≡ next = (some_pair_parts ReplyOf.Done r (network_of plan after) next e2).1 in
      subst (λ (net : Network A). All IsQuietNode net.nodes) same second))))

  turned : (s i word : ℕ) → Step (Event.Input s i word) → StaysQuiet
  turned s i word is =
      given (step_at nodes s (node_input kind i word)) _ (r, next) (input_named kind (network_of plan nodes) s i word ∙ is) (λ ended made last.
      at_place_made nodes s (node_input kind i word) ended made (λ n m here turn set. absurd (no_turn kind i word n m (quiet_at s n here) turn)))

  claimed : (s i o : ℕ) → Step (Event.Claim s i o) → StaysQuiet
  claimed s i o is =
      given (step_at nodes s (node_claim i o)) _ (r, next) (claim_named kind (network_of plan nodes) s i o ∙ is) (λ ended made last.
      at_place_made nodes s (node_claim i o) ended made (λ n m here claim set. absurd (no_claim i o n m (quiet_at s n here) claim)))

  drained : (t : ℕ) → Step (Event.Drain t) → StaysQuiet
  drained t is = search (arith, given, drain_named, from_place_made, no_drain, quiet_at)

  commanded : (s : ℕ) (bytes : List ℕ) → IsHarmless bytes r → Step (Event.Control s bytes) → StaysQuiet
  commanded s bytes may is =
      given (yield_step_at nodes s (node_control bytes)) _ (r, next) (control_named kind (network_of plan nodes) s bytes ∙ is) (λ v ev e2.
      from_place_made nodes s (node_control bytes) v ev (λ n y en ey hv. by_node n y en ey v hv e2))
    where
      by_node : (n : Node A) (y : List ℕ × Node A) → slice_get nodes s ≡ Some n → node_control bytes n ≡ Some y → (v : List ℕ × List (Node A)) → ◌≡◌ {A = List ℕ × List (Node A)} (y.0, slice_set nodes s y.1) v → ◌≡◌ {A = Option (Reply × Network A)} (Some (ReplyOf.Control v.0, network_of plan v.1)) (Some (r, next)) → StaysQuiet
      by_node (NodeOf.Terminal T) y en ey v hv e2 = absurd (cc)
      by_node (NodeOf.Switch S) y en ey v hv e2 =
          let parts = some_pair_parts (ReplyOf.Control v.0) r (network_of plan v.1) next e2 in
          let made = switch_control S bytes in
          let dy : ◌≡◌ {A = List ℕ × Node A} (made.0, NodeOf.Switch made.1) y = cc in
          let told : ReplyOf.Control made.0 ≡ r = ap (λ (z : List ℕ × Node A). ReplyOf.Control z.0) dy ∙ ap (λ (z : List ℕ × List (Node A)). ReplyOf.Control z.0) hv ∙ parts.0 in
          let same = read_sides S (read_command bytes) may.0 (λ e. may.1 (sym told ∙ ap ReplyOf.Control e)) in
          let was : IsQuietSwitch S = quiet_at s (NodeOf.Switch S) en in
          let stays : IsQuietSwitch made.1 = (subst (All IsQuietInput) (sym same.inputs) was.0, subst (All IsQuietOutput) (sym same.outputs) was.1) in
          let dv : slice_set nodes s (NodeOf.Switch made.1) ≡ v.1 = ap (λ (w : List ℕ × Node A). slice_set nodes s w.1) dy ∙ ap (λ (w : List ℕ × List (Node A)). w.1) hv in
          subst (λ (net : Network A). All IsQuietNode net.nodes) parts.1 (subst (All IsQuietNode) dv (All-set IsQuietNode nodes s (NodeOf.Switch made.1) stays quiet))

  pub stays_quiet : (routes : Routes) (e : Event) → event_sends e ≡ [] → MayHappen routes e r → Step e → StaysQuiet
  stays_quiet routes (Event.Send t packet) none may is = absurd (cc none)
  stays_quiet routes (Event.Control s bytes) none may is = commanded s bytes may is
  stays_quiet routes (Event.Cross P) none may is = crossed P is
  stays_quiet routes (Event.Credit P) none may is = granted P is
  stays_quiet routes (Event.Input s i word) none may is = turned s i word is
  stays_quiet routes (Event.Claim s i o) none may is = claimed s i o is
  stays_quiet routes (Event.Drain t) none may is = drained t is
