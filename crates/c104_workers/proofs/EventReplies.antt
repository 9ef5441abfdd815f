-- What an event that is done is answered, and for which of its limits it is refused.
use Rattle.{c104_event.specs.declared.{events.Event.Event, faults.EventFault.EventFault}, c104_link.specs.Steps.◌>>=◌}
use Rattle.c104_node.specs.{ActLinks.on_links, Acts.{control_by, done_by, node_act, token_by}, Nodes.{Node, node_claim, node_control}}
use Rattle.c104_node.specs.{Nodes.{node_credit_out, node_drain, node_input, node_leave, node_send}, PortActs.{Acts, act_limit, far_act}}
use Rattle.c104_node.specs.{PortActs.near_act, Records.{Crossed, NodeRecord, crossed, has_link, pair_step, recorded_step}}
use Rattle.{c104_node.specs.declared.{acts.ActOf.ActOf, crossings.Crossing.Crossing, node.NodeOf.NodeOf}, c104_plan.specs.Plans.Plan}
use Rattle.{c104_plan.specs.{Wiring.peer, declared.ports.Port.Port}, c104_run.specs.EventActs.{crossing_acts, event_acts}}
use Rattle.{c104_switch.specs.{Actions.Reply, declared.actions.{ActionOf.ActionOf, ReplyOf.ReplyOf}}, c104_token.specs.Kinds.plain_kind}
use Rattle.{c104_token.specs.declared.tokens.Token.Token, c104_turns.specs.SeatGrowth.{IsCommandReply, IsDoneReply, IsLaterFault}}
use Rattle.{c104_turns.specs.SeatGrowth.{IsReplyTo, IsTokenReply}, c104_workers.proofs.EventPlaces.{no_crossing, same_act}}
use Rattle.{c104_workers.specs.LentCalls.joint_of, std.proofs.Common.{Bool, List, None, Option, Some, ap, false, refl, subst, sym, true, ℕ}}
use Rattle.std.{proofs.Common.{◌∙◌, ◌≡◌}, specs.Prelude.if◌then◌else◌}

-- what is answered and left is one pair
first_same : (x y : Reply) (s m : Node Token) → ◌≡◌ {A = Option (Reply × Node Token)} (Some (x, s)) (Some (y, m)) → x ≡ y
first_same x y s m is = let both : ◌≡◌ {A = Reply × Node Token} (x, s) (y, m) = cc in ap (λ (p : Reply × Node Token). p.0) both

-- replies of steps
by_done : (o : Option (Node Token)) (r : Reply) (m : Node Token) → done_by o ≡ Some (r, m) → IsDoneReply r
by_done None r m is = absurd (cc is)
by_done (Some s) r m is = subst IsDoneReply (first_same ReplyOf.Done r s m is) tt

by_token : (o : Option (Token × Node Token)) (r : Reply) (m : Node Token) → token_by o ≡ Some (r, m) → IsTokenReply r
by_token None r m is = absurd (cc is)
by_token (Some s) r m is = subst IsTokenReply (first_same (ReplyOf.Token s.0) r s.1 m is) tt

by_control : (o : Option (List ℕ × Node Token)) (r : Reply) (m : Node Token) → control_by o ≡ Some (r, m) → IsCommandReply r
by_control None r m is = absurd (cc is)
by_control (Some s) r m is = subst IsCommandReply (first_same (ReplyOf.Control s.0) r s.1 m is) tt

-- replies of acts of one node
input_reply : (n : Node Token) (l word : ℕ) (r : Reply) (m : Node Token) → node_act plain_kind 0 (ActOf.Step (ActionOf.Input l word)) n ≡ Some (r, m) → IsDoneReply r
input_reply (NodeOf.Switch s) l word r m is = by_done (node_input plain_kind l word (NodeOf.Switch s)) r m is
input_reply (NodeOf.Terminal t) l word r m is = absurd (cc is)

claim_reply : (n : Node Token) (i o : ℕ) (r : Reply) (m : Node Token) → node_act plain_kind 0 (ActOf.Step (ActionOf.Claim i o)) n ≡ Some (r, m) → IsDoneReply r
claim_reply (NodeOf.Switch s) i o r m is = by_done (node_claim i o (NodeOf.Switch s)) r m is
claim_reply (NodeOf.Terminal t) i o r m is = absurd (cc is)

control_reply : (n : Node Token) (bytes : List ℕ) (r : Reply) (m : Node Token) → node_act plain_kind 0 (ActOf.Step (ActionOf.Control bytes)) n ≡ Some (r, m) → IsCommandReply r
control_reply (NodeOf.Switch s) bytes r m is = by_control (node_control bytes (NodeOf.Switch s)) r m is
control_reply (NodeOf.Terminal t) bytes r m is = absurd (cc is)

-- replies of what crosses a wire, at its near end
leave_reply : (n : Node Token) (p : Port) (r : Reply) (m : Node Token) → node_act plain_kind 0 (near_act Crossing.Token p) n ≡ Some (r, m) → IsTokenReply r
leave_reply (NodeOf.Switch s) (Port.Switch k l) r m is = by_token (node_leave l (NodeOf.Switch s)) r m is
leave_reply (NodeOf.Switch s) (Port.Terminal t) r m is = absurd (cc is)
leave_reply (NodeOf.Terminal t) (Port.Switch k l) r m is = absurd (cc is)
leave_reply (NodeOf.Terminal t) (Port.Terminal k) r m is = by_token (node_leave 0 (NodeOf.Terminal t)) r m is

grant_reply : (n : Node Token) (p : Port) (r : Reply) (m : Node Token) → node_act plain_kind 0 (near_act Crossing.Grant p) n ≡ Some (r, m) → IsDoneReply r
grant_reply (NodeOf.Switch s) (Port.Switch k l) r m is = by_done (node_credit_out l (NodeOf.Switch s)) r m is
grant_reply (NodeOf.Switch s) (Port.Terminal t) r m is = absurd (cc is)
grant_reply (NodeOf.Terminal t) (Port.Switch k l) r m is = absurd (cc is)
grant_reply (NodeOf.Terminal t) (Port.Terminal k) r m is = by_done (node_credit_out 0 (NodeOf.Terminal t)) r m is

-- a step of a node that is lent is one of its state
stepped : (n : NodeRecord) (a : ActOf Token) (r : Reply) (m : Node Token) → recorded_step n a ≡ Some (r, m) → node_act plain_kind 0 a n.state ≡ Some (r, m)
stepped n a r m is = by_link (on_links (has_link n.wired) a) (node_act plain_kind 0 a n.state) is
  where
    by_link : (b : Bool) (made : Option (Reply × Node Token)) → (if b then made else None) ≡ Some (r, m) → made ≡ Some (r, m)
    by_link true made is = is
    by_link false made is = absurd (cc is)

-- what crossed is answered as it went out
pub near_made : (near : Option (Reply × Node Token)) (far : Reply → Option (Reply × Node Token)) (r : Reply) (n m : Node Token) → (near >>= (λ r. far r.0 >>= (λ s. Some (crossed r.0 r.1 s.1)))) ≡ Some (crossed r n m) → near ≡ Some (r, n)
near_made None far r n m is = absurd (cc is)
near_made (Some made) far r n m is = by_far (far made.0) is
  where
    by_far : (o : Option (Reply × Node Token)) → (o >>= (λ s. Some (crossed made.0 made.1 s.1))) ≡ Some (crossed r n m) → ◌≡◌ {A = Option (Reply × Node Token)} (Some made) (Some (r, n))
    by_far None is = absurd (cc is)
    by_far (Some s) is =
        let both : crossed made.0 made.1 s.1 ≡ crossed r n m = cc is in
        let told : made.0 ≡ r = ap (λ (c : Crossed). c.told) both in
        let state : made.1 ≡ n = ap (λ (c : Crossed). c.near) both in
        ap (λ x. Some (x, made.1)) told ∙ ap (λ y. Some (r, y)) state

module _ (plan : Plan) where
  -- an event of one node is answered as is due to it
  pub alone_suits : (e : Event) (k : ℕ) (a : ActOf Token) (n : NodeRecord) (r : Reply) (m : Node Token) → event_acts {A = Token} plan e ≡ Some (Acts.Alone k a) → recorded_step n a ≡ Some (r, m) → IsReplyTo e r
  alone_suits e k a n r m acts step = by_event e acts (stepped n a r m step)
    where
      given : (b : ActOf Token) → b ≡ a → node_act plain_kind 0 a n.state ≡ Some (r, m) → node_act plain_kind 0 b n.state ≡ Some (r, m)
      given b is made = subst (λ x. node_act plain_kind 0 x n.state ≡ Some (r, m)) (sym is) made

      by_event : (e : Event) → event_acts {A = Token} plan e ≡ Some (Acts.Alone k a) → node_act plain_kind 0 a n.state ≡ Some (r, m) → IsReplyTo e r
      by_event (Event.Cross p) is made = absurd (no_crossing Crossing.Token p (peer plan p) k a is)
      by_event (Event.Credit p) is made = absurd (no_crossing Crossing.Grant p (peer plan p) k a is)
      by_event (Event.Input s l word) is made = input_reply n.state l word r m (given (ActOf.Step (ActionOf.Input l word)) (same_act s k _ a is) made)
      by_event (Event.Claim s i o) is made = claim_reply n.state i o r m (given (ActOf.Step (ActionOf.Claim i o)) (same_act s k _ a is) made)
      by_event (Event.Control s bytes) is made = control_reply n.state bytes r m (given (ActOf.Step (ActionOf.Control bytes)) (same_act s k _ a is) made)
      by_event (Event.Send t packet) is made = by_done (node_send plain_kind 0 packet n.state) r m (given (ActOf.Send packet) (same_act _ k _ a is) made)
      by_event (Event.Drain t) is made = by_token (node_drain n.state) r m (given ActOf.Drain (same_act _ k _ a is) made)

  same_crossing : (c d : Crossing) (p p' q' : Port) (o : Option Port) → crossing_acts {A = Token} c p o ≡ Some (Acts.Joint p' q' d) → c ≡ d
  same_crossing c d p p' q' None is = absurd (cc is)
  same_crossing c d p p' q' (Some q) is = cc is

  -- and so is one of the two ends of a wire
  pub pair_suits : (e : Event) (p q : Port) (c : Crossing) (near far : NodeRecord) (r : Reply) (n m : Node Token) → event_acts {A = Token} plan e ≡ Some (Acts.Joint p q c) → pair_step (joint_of p q c) near far ≡ Some (crossed r n m) → IsReplyTo e r
  pair_suits e p q c near far r n m acts made =
      let left = near_made (recorded_step near (near_act c p)) (λ told. recorded_step far (far_act q told)) r n m made in
      by_event e acts (stepped near (near_act c p) r n left)
    where
      given : (d : Crossing) → d ≡ c → node_act plain_kind 0 (near_act c p) near.state ≡ Some (r, n) → node_act plain_kind 0 (near_act d p) near.state ≡ Some (r, n)
      given d is made = subst (λ x. node_act plain_kind 0 (near_act x p) near.state ≡ Some (r, n)) (sym is) made

      by_event : (e : Event) → event_acts {A = Token} plan e ≡ Some (Acts.Joint p q c) → node_act plain_kind 0 (near_act c p) near.state ≡ Some (r, n) → IsReplyTo e r
      by_event (Event.Cross s) is made = leave_reply near.state p r n (given Crossing.Token (same_crossing Crossing.Token c s p q (peer plan s) is) made)
      by_event (Event.Credit s) is made = grant_reply near.state p r n (given Crossing.Grant (same_crossing Crossing.Grant c s p q (peer plan s) is) made)
      by_event (Event.Input s l word) is made = absurd (cc is)
      by_event (Event.Claim s i o) is made = absurd (cc is)
      by_event (Event.Control s bytes) is made = absurd (cc is)
      by_event (Event.Send t packet) is made = absurd (cc is)
      by_event (Event.Drain t) is made = absurd (cc is)

-- a limit is one of the event's
abbrev pub AreLater : Event → Option EventFault → Type 0
AreLater e None = Unit {0}
AreLater e (Some f) = IsLaterFault e f

if_later : (e : Event) (b : Bool) (f : EventFault) → IsLaterFault e f → AreLater e (if b then None else Some f)
if_later e true f later = tt
if_later e false f later = later

pub act_later : (plan : Plan) (e : Event) (k : ℕ) (a : ActOf Token) (n : Node Token) → event_acts {A = Token} plan e ≡ Some (Acts.Alone k a) → AreLater e (act_limit (Some n) a)
act_later plan (Event.Cross p) k a n is = absurd (no_crossing Crossing.Token p (peer plan p) k a is)
act_later plan (Event.Credit p) k a n is = absurd (no_crossing Crossing.Grant p (peer plan p) k a is)
act_later plan (Event.Input s l word) k a n is = subst (λ b. AreLater (Event.Input s l word) (act_limit (Some n) b)) (same_act s k _ a is) tt
act_later plan (Event.Claim s i o) k a n is = subst (λ b. AreLater (Event.Claim s i o) (act_limit (Some n) b)) (same_act s k _ a is) tt
act_later plan (Event.Control s bytes) k a n is = subst (λ b. AreLater (Event.Control s bytes) (act_limit (Some n) b)) (same_act s k _ a is) tt
act_later plan (Event.Send t packet) k a n is = subst (λ b. AreLater (Event.Send t packet) (act_limit (Some n) b)) (same_act _ k _ a is) (if_later (Event.Send t packet) _ EventFault.OutboxFull refl)
act_later plan (Event.Drain t) k a n is = subst (λ b. AreLater (Event.Drain t) (act_limit (Some n) b)) (same_act _ k _ a is) (if_later (Event.Drain t) _ EventFault.InboxFull refl)
