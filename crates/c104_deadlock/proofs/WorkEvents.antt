-- Events of a round leave less work, and each switch started.
use Rattle.{c104_check.specs.{Walks.port_of, declared.ports.SwitchPort.SwitchPort}, c104_deadlock.proofs.WorkSteps.{at_far, at_own}}
use Rattle.c104_deadlock.proofs.WorkSteps.{claim_work, credit_in_work, credit_out_work, drain_work, enter_work, far_of, input_set}
use Rattle.c104_deadlock.{proofs.WorkSteps.{leave_work, own, sum_set, turn_work}, specs.HeaderWork.{ahead_at, full_node, full_work}}
use Rattle.{c104_deadlock.specs.Work.level, c104_event.specs.declared.{events.Event.Event, faults.EventFault.EventFault}}
use Rattle.c104_link.proofs.MadeSteps.{at_place_made, from_place_made, given, length-at_place, place_after_set, required, with_place_made}
use Rattle.c104_link.specs.{Buffers.{Incoming, Outgoing, incoming_accept, incoming_grant}, Steps.{joint_step_at, step_at, yield_step_at}}
use Rattle.{c104_link.specs.Steps.◌>>=◌, c104_net.proofs.{JointKeeps.{IsOfRound, IsPlainAsk, asks_plain, round_keeps}, LinkActs.Matches}}
use Rattle.{c104_net.proofs.{LinkActs.{credit_out_same, leave_same}, PlanWires.matches}, c104_node.proofs.NamedWires.nodes_credit}
use Rattle.c104_node.{proofs.{NamedWires.nodes_cross, NextTokens.first_some}, specs.Nodes.{Node, is_switch, node_claim, node_credit_in}}
use Rattle.c104_node.specs.{Nodes.{node_credit_out, node_drain, node_enter, node_input, node_leave}, declared.crossings.Crossing.Crossing}
use Rattle.{c104_node.specs.declared.{crossings.Crossing.TheVariants.{Grant, Token}, node.NodeOf.NodeOf}, c104_plan.specs.Plans.IsPlan}
use Rattle.{c104_plan.specs.{Plans.Plan, Wiring.peer, declared.ports.Port.Port}, c104_regs.specs.Settings.header_length}
use Rattle.{c104_regs.specs.declared.settings.Settings.Settings, c104_run.proofs.{AskCases.{AreCases, of_event}, BalanceWires.peer_back}}
use Rattle.c104_run.{proofs.EventSteps.{claim_named, credit_named, cross_named, drain_named, input_named}, specs.Balance.AreInPlace}
use Rattle.c104_run.specs.{Ends.end_of, EventActs.{Ask, acts_step, ask_acts}, Network.{Network, network_of, network_step, terminal_place}}
use Rattle.c104_run.specs.{Network.{told_step, wired_fault}, Standstill.{IsStarted, IsStartedNode, IsStartedSwitch}}
use Rattle.c104_switch.specs.{Actions.Reply, Claims.{input_claim, inputs_claim, switch_claim}, Group.is_in_group, Switch.{Input, Switch}}
use Rattle.c104_switch.specs.{Switch.{is_owned, with_sides}, Turns.{header_turn, input_turn, switch_input, turn_by_phase}}
use Rattle.c104_switch.specs.declared.{actions.ReplyOf.ReplyOf, phase.Phase.{Phase, TheVariants.{Stream, Want}}}
use Rattle.{c104_token.specs.{Kinds.Kind, Tokens.is_end}, std.proofs.Common.{List, Option, Some, [], ap, arith, false, length, map, nat_le}}
use Rattle.std.proofs.Common.{nat_lt, not, refl, slice_get, slice_set, subst, sym, true, ℕ, ⊎_elim, ◌*◌, ◌++◌, ◌+◌, ◌-◌, ◌<◌, ◌∙◌, ◌∷◌, ◌≡◌}
use Rattle.std.proofs.{Common.◌≤◌, lemmas.{Bool.cases_Bool, List.length-set, Option.some_pair_parts}}

-- what each way of a packet goes down, and what is counted in advance: at an input that puts random headers what one
-- weighs, and one for the turn; at one that a switch is wired to nothing
pub record AreFalling {A : Type 0} (plan : Plan) (rank ahead : SwitchPort → ℕ) (nodes : List (Node A)) : Type 0 where
  pub puts : (s i : ℕ) (S : Switch A) (t : Settings) → slice_get nodes s ≡ Some (NodeOf.Switch S) → slice_get S.settings i ≡ Some t → t.randomize ≡ true → ahead (port_of s i) ≡ header_length t * (8 * own plan rank (Port.Switch s i)) + 1
  pub streams : (s i o : ℕ) (S : Switch A) (p : Input A) → slice_get nodes s ≡ Some (NodeOf.Switch S) → slice_get S.inputs i ≡ Some p → p.phase ≡ Stream o → (far_of plan rank (Port.Switch s o) + 1 ≤ own plan rank (Port.Switch s i)) × (at_far plan rank ahead (Port.Switch s o) ≡ 0)
  pub wants : (s i o g : ℕ) (S : Switch A) (p : Input A) (b : List A) → slice_get nodes s ≡ Some (NodeOf.Switch S) → slice_get S.inputs i ≡ Some p → p.phase ≡ Want b g → is_in_group S.settings g o ≡ true → (0 < length b) × (far_of plan rank (Port.Switch s o) + 1 ≤ own plan rank (Port.Switch s i)) × (at_far plan rank ahead (Port.Switch s o) ≡ 0)

module _ {A : Type 0} (kind : Kind A) (plan : Plan) (is_plan : IsPlan plan) (rank ahead : SwitchPort → ℕ) (nodes : List (Node A)) (placed : AreInPlace plan nodes) (falling : AreFalling plan rank ahead nodes) where
  node_set : (k : ℕ) (n m : Node A) (all : List (Node A)) → slice_get all k ≡ Some n → full_work plan rank ahead (slice_set all k m) + full_node plan rank ahead k n ≡ full_work plan rank ahead all + full_node plan rank ahead k m
  node_set k n m all e = sum_set (full_node plan rank ahead) all k n m e

  abbrev pub Less : Network A → Type 0
  Less net' = full_work plan rank ahead net'.nodes + 1 ≤ full_work plan rank ahead nodes

  -- what is left where one node has less
  one_less : (k : ℕ) (n m : Node A) → slice_get nodes k ≡ Some n → full_node plan rank ahead k m + 1 ≤ full_node plan rank ahead k n → full_work plan rank ahead (slice_set nodes k m) + 1 ≤ full_work plan rank ahead nodes
  one_less k n m e less = let all = node_set k n m nodes e in omega (arith, all, less)

  left_is : (told r : Reply) (after : List (Node A)) (net' : Network A) → ◌≡◌ {A = Option (Reply × Network A)} (Some (told, network_of plan after)) (Some (r, net')) → full_work plan rank ahead after + 1 ≤ full_work plan rank ahead nodes → Less net'
  left_is told r after net' e less = let d : network_of plan after ≡ net' = (some_pair_parts told r (network_of plan after) net' e).1 in subst Less d less

  cross_less : (P : Port) (r : Reply) (net' : Network A) → network_step kind (network_of plan nodes) (Event.Cross P) ≡ Some (r, net') → Less net'
  cross_less P r net' e =
      given (peer plan P) _ (r, net') (cross_named kind (network_of plan nodes) is_plan placed P ∙ e) (λ Q eQ e1.
      given (nodes_cross nodes (end_of plan P) (end_of plan Q)) _ (r, net') e1 (λ c ec e2.
      given (yield_step_at nodes (end_of plan P).node (node_leave (end_of plan P).link)) _ c ec (λ v ev f1.
      given (step_at v.1 (end_of plan Q).node (node_enter v.0 (end_of plan Q).link)) _ c f1 (λ after ea f2.
      from_place_made nodes (end_of plan P).node (node_leave (end_of plan P).link) v ev (λ n y en ey hv.
      at_place_made v.1 (end_of plan Q).node (node_enter v.0 (end_of plan Q).link) after ea (λ m m' em em' hm.
      (let near : Matches P n = matches plan is_plan nodes placed P Q n eQ en in
      let mid : slice_set nodes (end_of plan P).node y.1 ≡ v.1 = ap (λ (z : A × List (Node A)). z.1) hv in
      let kinds = (leave_same plan nodes P n y en near ey).2.kinds_are in
      let kinds' : map is_switch v.1 ≡ map is_switch nodes = ap (map is_switch) (sym mid) ∙ kinds in
      let far : Matches Q m = matches plan is_plan v.1 (kinds' ∙ placed) Q P m (peer_back plan is_plan P Q eQ) em in
      let one = leave_work plan rank ahead P n y near ey in
      let two = enter_work plan rank ahead Q v.0 m m' far em' in
      let first = node_set (end_of plan P).node n y.1 nodes en in
      let second = node_set (end_of plan Q).node m m' v.1 em in
      let same : far_of plan rank P ≡ own plan rank Q = ap (level plan rank) eQ in
      let ahead_is : at_far plan rank ahead P ≡ at_own plan rank ahead Q = ap (ahead_at plan rank ahead) eQ in
      let a : full_work plan rank ahead (slice_set nodes (end_of plan P).node y.1) ≡ full_work plan rank ahead v.1 = ap (full_work plan rank ahead) mid in
      let b : full_work plan rank ahead (slice_set v.1 (end_of plan Q).node m') ≡ full_work plan rank ahead after = ap (full_work plan rank ahead) hm in
      let d : (v.0, after) ≡ c = cc in
      left_is (ReplyOf.Token (kind.plain c.0)) r c.1 net' e2 (subst (λ (z : A × List (Node A)). full_work plan rank ahead z.1 + 1 ≤ full_work plan rank ahead nodes) d (omega (arith, one, two, first, second, same, ahead_is, a, b))))))))))

  credit_less : (P : Port) (r : Reply) (net' : Network A) → network_step kind (network_of plan nodes) (Event.Credit P) ≡ Some (r, net') → Less net'
  credit_less P r net' e =
      given (peer plan P) _ (r, net') (credit_named kind (network_of plan nodes) is_plan placed P ∙ e) (λ Q eQ e1.
      given (nodes_credit nodes (end_of plan P) (end_of plan Q)) _ (r, net') e1 (λ after ec e2.
      given (step_at nodes (end_of plan P).node (node_credit_out (end_of plan P).link)) _ after ec (λ mid ev f1.
      at_place_made nodes (end_of plan P).node (node_credit_out (end_of plan P).link) mid ev (λ n n' en en' hv.
      at_place_made mid (end_of plan Q).node (node_credit_in (end_of plan Q).link) after f1 (λ m m' em em' hm.
      (let near : Matches P n = matches plan is_plan nodes placed P Q n eQ en in
      let kinds = (credit_out_same plan nodes P n n' en near en').kinds_are in
      let kinds' : map is_switch mid ≡ map is_switch nodes = ap (map is_switch) (sym hv) ∙ kinds in
      let far : Matches Q m = matches plan is_plan mid (kinds' ∙ placed) Q P m (peer_back plan is_plan P Q eQ) em in
      let one = credit_out_work plan rank ahead P n n' near en' in
      let two = credit_in_work plan rank ahead Q m m' far em' in
      let first = node_set (end_of plan P).node n n' nodes en in
      let second = node_set (end_of plan Q).node m m' mid em in
      let a : full_work plan rank ahead (slice_set nodes (end_of plan P).node n') ≡ full_work plan rank ahead mid = ap (full_work plan rank ahead) hv in
      let b : full_work plan rank ahead (slice_set mid (end_of plan Q).node m') ≡ full_work plan rank ahead after = ap (full_work plan rank ahead) hm in
      left_is ReplyOf.Done r after net' e2 (omega (arith, one, two, first, second, a, b))))))))

  drain_less : (t : ℕ) (r : Reply) (net' : Network A) → network_step kind (network_of plan nodes) (Event.Drain t) ≡ Some (r, net') → Less net'
  drain_less t r net' e =
      given (yield_step_at nodes (terminal_place plan t) node_drain) _ (r, net') (drain_named kind (network_of plan nodes) t ∙ e) (λ v ev e2.
      from_place_made nodes (terminal_place plan t) node_drain v ev (λ n y en ey hv.
      (let one = one_less (terminal_place plan t) n y.1 en (drain_work plan rank ahead (terminal_place plan t) n y ey) in
      left_is (ReplyOf.Token (kind.plain v.0)) r v.1 net' e2 (subst (λ (z : A × List (Node A)). full_work plan rank ahead z.1 + 1 ≤ full_work plan rank ahead nodes) hv one))))

  input_less : (s i word : ℕ) (r : Reply) (net' : Network A) → network_step kind (network_of plan nodes) (Event.Input s i word) ≡ Some (r, net') → Less net'
  input_less s i word r net' e =
      given (step_at nodes s (node_input kind i word)) _ (r, net') (input_named kind (network_of plan nodes) s i word ∙ e) (λ ended ea e2.
      at_place_made nodes s (node_input kind i word) ended ea (λ n n' en en' hv. left_is ReplyOf.Done r ended net' e2 (subst (λ z. full_work plan rank ahead z + 1 ≤ full_work plan rank ahead nodes) hv (one_less s n n' en (by_node n n' en en')))))
    where
      by_node : (n n' : Node A) → slice_get nodes s ≡ Some n → node_input kind i word n ≡ Some n' → full_node plan rank ahead s n' + 1 ≤ full_node plan rank ahead s n
      by_node (NodeOf.Terminal T) n' en en' = absurd (cc)
      by_node (NodeOf.Switch S) n' en en' =
          given (switch_input kind S i word) _ n' en' (λ S' eS' d0.
          required S.started _ S' eS' (λ h f1.
          given (slice_get S.settings i) _ S' f1 (λ t et f2.
          given (joint_step_at S.inputs i (λ p. input_turn kind t word p S.outputs)) _ S' f2 (λ v ev f3.
          with_place_made S.inputs i (λ p. input_turn kind t word p S.outputs) v ev (λ p y ep ey d1.
          given (slice_get p.buffer.items 0) _ y ey (λ x ex f4.
          (let less = turn_work plan rank ahead kind s i S t word p x y p.phase (falling.puts s i S t en et) (λ o streams. falling.streams s i o S p en ep streams) refl (first_some p.buffer.items x ex) f4 in
          let all = input_set plan rank ahead s S i p y.0 ep in
          let b : with_sides S v ≡ S' = cc in let c : NodeOf.Switch S' ≡ n' = cc in
          let d : ◌≡◌ {A = Node A} (NodeOf.Switch (with_sides S (slice_set S.inputs i y.0, y.1))) n' = ap (λ (z : List (Input A) × List (Outgoing A)). NodeOf.Switch (with_sides S z)) d1 ∙ ap NodeOf.Switch b ∙ c in
          subst (λ z. full_node plan rank ahead s z + 1 ≤ full_node plan rank ahead s (NodeOf.Switch S)) d (omega (arith, less, all)))))))))

  claim_less : (s i o : ℕ) (r : Reply) (net' : Network A) → network_step kind (network_of plan nodes) (Event.Claim s i o) ≡ Some (r, net') → Less net'
  claim_less s i o r net' e =
      given (step_at nodes s (node_claim i o)) _ (r, net') (claim_named kind (network_of plan nodes) s i o ∙ e) (λ ended ea e2.
      at_place_made nodes s (node_claim i o) ended ea (λ n n' en en' hv. left_is ReplyOf.Done r ended net' e2 (subst (λ z. full_work plan rank ahead z + 1 ≤ full_work plan rank ahead nodes) hv (one_less s n n' en (by_node n n' en en')))))
    where
      by_node : (n n' : Node A) → slice_get nodes s ≡ Some n → node_claim i o n ≡ Some n' → full_node plan rank ahead s n' + 1 ≤ full_node plan rank ahead s n
      by_node (NodeOf.Terminal T) n' en en' = absurd (cc)
      by_node (NodeOf.Switch S) n' en en' =
          given (switch_claim S i o) _ n' en' (λ S' eS' d0.
          required S.started _ S' eS' (λ h f1.
          given (inputs_claim S.settings S.inputs S.outputs i o) _ S' f1 (λ v ev f3.
          required (not (is_owned S.inputs o)) _ v ev (λ free f4.
          with_place_made S.inputs i (λ p. input_claim S.settings p S.outputs o p.phase) v f4 (λ p y ep ey d1.
          (let less = claim_work plan rank ahead kind s i S o p y p.phase (λ b g wants group. falling.wants s i o g S p b en ep wants group) refl ey in
          let all = input_set plan rank ahead s S i p y.0 ep in
          let b : with_sides S v ≡ S' = cc in let c : NodeOf.Switch S' ≡ n' = cc in
          let d : ◌≡◌ {A = Node A} (NodeOf.Switch (with_sides S (slice_set S.inputs i y.0, y.1))) n' = ap (λ (z : List (Input A) × List (Outgoing A)). NodeOf.Switch (with_sides S z)) d1 ∙ ap NodeOf.Switch b ∙ c in
          subst (λ z. full_node plan rank ahead s z + 1 ≤ full_node plan rank ahead s (NodeOf.Switch S)) d (omega (arith, less, all))))))))

  -- what is asked in a round leaves less, where it was ready
  abbrev LeavesLess : Option EventFault → Ask A → Type 0
  LeavesLess f ask = IsPlainAsk ask → (r : Reply) (net' : Network A) → (ask_acts plan ask >>= (λ acts. told_step kind (network_of plan nodes) (acts_step kind plan nodes acts))) ≡ Some (r, net') → Less net'

  over_less : (p : Port) (crossing : Crossing) → LeavesLess (wired_fault plan p) (Ask.Over p crossing)
  over_less p Token of = cross_less p
  over_less p Grant of = credit_less p

  steps_less : AreCases plan LeavesLess
  steps_less = search (arith, over_less, input_less, claim_less, drain_less)

  -- each event of a round that is done leaves less
  pub event_less : (e : Event) (r : Reply) (net' : Network A) → IsOfRound e → network_step kind (network_of plan nodes) e ≡ Some (r, net') → Less net'
  event_less e r net' of is = of_event plan LeavesLess steps_less e (asks_plain A e of) r net' is

-- what keeps a node started
module _ {A : Type 0} where
  module _ (S : Switch A) (started : IsStartedSwitch S) where
    started_sides : (l : ℕ) (p r : Input A) (qs : List (Outgoing A)) → slice_get S.inputs l ≡ Some p → r.buffer.cap ≡ p.buffer.cap → length qs ≡ length S.outputs → IsStartedSwitch (with_sides S (slice_set S.inputs l r, qs))
    started_sides l p r qs is same long = search (arith, length-set, place_after_set)

  accept_cap : (x : A) (b c : Incoming A) → incoming_accept x b ≡ Some c → c.cap ≡ b.cap
  accept_cap x b c e = required (nat_lt 0 b.granted) _ c e (λ h f. (let d : record { cap = b.cap; items = b.items ++ x ∷ []; granted = b.granted - 1 } ≡ c = cc in sym (ap (λ (z : Incoming A). z.cap) d)))

  grant_cap : (b c : Incoming A) → incoming_grant b ≡ Some c → c.cap ≡ b.cap
  grant_cap b c e = required (nat_le (length b.items + b.granted + 8) b.cap) _ c e (λ h f. (let d : record { cap = b.cap; items = b.items; granted = b.granted + 8 } ≡ c = cc in sym (ap (λ (z : Incoming A). z.cap) d)))

  enter_started : (x : A) (l : ℕ) (n m : Node A) → node_enter x l n ≡ Some m → IsStartedNode n → IsStartedNode m
  enter_started x l n m e a = search (arith, given, at_place_made, started_sides, accept_cap)

  leave_started : (l : ℕ) (n : Node A) (r : A × Node A) → node_leave l n ≡ Some r → IsStartedNode n → IsStartedNode r.1
  leave_started l n r e a = search (arith, given, from_place_made, length-set)

  credit_out_started : (l : ℕ) (n m : Node A) → node_credit_out l n ≡ Some m → IsStartedNode n → IsStartedNode m
  credit_out_started l n m e a = search (arith, given, required, at_place_made, started_sides, grant_cap)

  credit_in_started : (l : ℕ) (n m : Node A) → node_credit_in l n ≡ Some m → IsStartedNode n → IsStartedNode m
  credit_in_started l n m e a = search (arith, given, at_place_made, length-set)

  drain_started : (n : Node A) (r : A × Node A) → node_drain n ≡ Some r → IsStartedNode n → IsStartedNode r.1
  drain_started n r e a = grind arith

  -- a turn and a claim keep the capacity of the buffer, and how many outputs there are
  abbrev Keeps : Input A → List (Outgoing A) → Input A × List (Outgoing A) → Type 0
  Keeps p qs r = (r.0.buffer.cap ≡ p.buffer.cap) × (length r.1 ≡ length qs)

  header_cap : (kind : Kind A) (t : Settings) (p : Input A) (b : List A) (x : A) → (header_turn kind t p b x).buffer.cap ≡ p.buffer.cap
  header_cap kind t p b x = ⊎_elim (λ (m : is_end (kind.plain x) ≡ true). rw m refl) (λ (m : is_end (kind.plain x) ≡ false). rw m refl) (cases_Bool (is_end (kind.plain x)))

  turn_keeps : (kind : Kind A) (t : Settings) (word : ℕ) (p : Input A) (qs : List (Outgoing A)) (x : A) (ph : Phase (List A)) (r : Input A × List (Outgoing A)) → turn_by_phase kind t word p qs ph x ≡ Some r → Keeps p qs r
  turn_keeps kind t word p qs x ph r e = search (arith, header_cap, cases_Bool, given, length-at_place)

  claim_keeps : (settings : List Settings) (p : Input A) (qs : List (Outgoing A)) (o : ℕ) (ph : Phase (List A)) (r : Input A × List (Outgoing A)) → input_claim settings p qs o ph ≡ Some r → Keeps p qs r
  claim_keeps settings p qs o ph r e = search (arith, required, given, length-at_place)

  input_started : (kind : Kind A) (i word : ℕ) (n m : Node A) → node_input kind i word n ≡ Some m → IsStartedNode n → IsStartedNode m
  input_started kind i word (NodeOf.Terminal T) m e a = absurd (cc)
  input_started kind i word (NodeOf.Switch S) m e a =
      given (switch_input kind S i word) _ m e (λ S' eS' d0.
      required S.started _ S' eS' (λ h f1.
      given (slice_get S.settings i) _ S' f1 (λ t et f2.
      given (joint_step_at S.inputs i (λ p. input_turn kind t word p S.outputs)) _ S' f2 (λ v ev f3.
      with_place_made S.inputs i (λ p. input_turn kind t word p S.outputs) v ev (λ p y ep ey d1.
      given (slice_get p.buffer.items 0) _ y ey (λ x ex f4.
      (let k = turn_keeps kind t word p S.outputs x p.phase y f4 in
      let b : with_sides S v ≡ S' = cc in let c : NodeOf.Switch S' ≡ m = cc in
      let d : ◌≡◌ {A = Node A} (NodeOf.Switch (with_sides S (slice_set S.inputs i y.0, y.1))) m = ap (λ (z : List (Input A) × List (Outgoing A)). NodeOf.Switch (with_sides S z)) d1 ∙ ap NodeOf.Switch b ∙ c in
      subst IsStartedNode d (started_sides S a i p y.0 y.1 ep k.0 k.1))))))))

  claim_started : (i o : ℕ) (n m : Node A) → node_claim i o n ≡ Some m → IsStartedNode n → IsStartedNode m
  claim_started i o n m e a = search (arith, given, required, with_place_made, claim_keeps, started_sides)

  abbrev pub AreStarted : List (Node A) → Type 0
  AreStarted nodes = (k : ℕ) (n : Node A) → slice_get nodes k ≡ Some n → IsStartedNode n

  pub started_set : (nodes : List (Node A)) (k : ℕ) (m : Node A) → AreStarted nodes → IsStartedNode m → AreStarted (slice_set nodes k m)
  started_set nodes k m all one j n e = ⊎_elim (λ (h : (k ≡ j) × (m ≡ n)). subst IsStartedNode h.1 one) (λ h. all j n h) (place_after_set nodes k j m n e)

  pub started_at : (nodes : List (Node A)) (k : ℕ) (f : Node A → Option (Node A)) (after : List (Node A)) → step_at nodes k f ≡ Some after → ((n m : Node A) → f n ≡ Some m → IsStartedNode n → IsStartedNode m) → AreStarted nodes → AreStarted after
  started_at nodes k f after e keeps all = at_place_made nodes k f after e (λ n m en em hv. subst AreStarted hv (started_set nodes k m all (keeps n m em (all k n en))))

module _ {A : Type 0} (kind : Kind A) (plan : Plan) (nodes : List (Node A)) (started : AreStarted nodes) where
  -- each event of a round keeps each node started
  pub event_started : (e : Event) (r : Reply) (net' : Network A) → IsOfRound e → network_step kind (network_of plan nodes) e ≡ Some (r, net') → IsStarted net'
  event_started e r net' of is =
      round_keeps kind (λ n m. IsStartedNode n → IsStartedNode m) leave_started enter_started credit_out_started credit_in_started (input_started kind) claim_started drain_started
      AreStarted (λ ns k n m here keeps all. started_set ns k m all (keeps (all k n here))) plan nodes e of (r, net') is started
