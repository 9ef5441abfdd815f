-- What a call on lent nodes does to the seat alone: its list grew by the call, or it is as it was; and which faults it is
-- answered.
use Rattle.{c104_event.specs.declared.{events.Event.Event, faults.EventFault.EventFault}, c104_node.specs.PortActs.{Acts, act_limit}}
use Rattle.c104_node.specs.{Records.{NodeRecord, fault_first, is_full, pair_step, recorded_limit, recorded_step}, declared.acts.ActOf.ActOf}
use Rattle.{c104_node.specs.declared.crossings.Crossing.Crossing, c104_plan.specs.{Plans.Plan, declared.ports.Port.Port}}
use Rattle.{c104_run.specs.EventActs.event_acts, c104_switch.specs.Actions.{Reply, is_ready}, c104_token.specs.declared.tokens.Token.Token}
use Rattle.c104_turns.specs.{Calls.{IfDone, IsSameSeat, SeatView}, SeatGrowth.{Follows, Grew, GrewBy, IsLaterFault}}
use Rattle.c104_workers.{proofs.EventReplies.{AreLater, act_later, alone_suits, pair_suits}, specs.LentCalls.{CallsNode, CallsPair}}
use Rattle.c104_workers.specs.LentCalls.{IsRefusal, NodeActed, PairActed, SameNode, SamePair, joint_of, node_limit, pair_limit}
use Rattle.{c104_workers.specs.Seats.is_seat_full, std.proofs.Common.{Bool, Err, None, Ok, Option, Result, Some, ap, false, subst, sym}}
use Rattle.std.proofs.Common.{true, ℕ, ◌||◌, ◌≡◌}

-- that a list is full is a fault of any event
full_later : (e : Event) (b : Bool) → AreLater e (fault_first None b)
full_later e true = tt
full_later e false = tt

first_later : (e : Event) (f : Option EventFault) (b : Bool) → AreLater e f → AreLater e (fault_first f b)
first_later e None b later = full_later e b
first_later e (Some f) b later = later

refused_later : (e : Event) (limit : Option EventFault) (f : EventFault) → AreLater e limit → IsRefusal limit f → IsLaterFault e f
refused_later e None f later is = subst (IsLaterFault e) (sym is) tt
refused_later e (Some g) f later is = subst (IsLaterFault e) (sym is) later

module _ (plan : Plan) (old new : SeatView) (e : Event) where
  pub node_follows : (k : ℕ) (a : ActOf Token) (n m : NodeRecord) (answer : Result Reply EventFault) → event_acts {A = Token} plan e ≡ Some (Acts.Alone k a) → CallsNode false old new n m e a answer → Follows old new e answer
  node_follows k a n m (Ok r) acts call = record { grew = by_ready (is_ready r) call; fault = tt }
    where
      by_ready : (b : Bool) → IfDone b (NodeActed false old new n m e a r × (node_limit old n a ≡ None)) ((recorded_step n a ≡ None) × SameNode old new n m) → IfDone b (GrewBy old new e r) (new ≡ old)
      by_ready true call = record {
        ticket = call.0.ticket;
        fresh = call.0.fresh;
        listed = call.0.listed;
        suits = alone_suits plan e k a n r m.state acts call.0.made;
      }
      by_ready false call = call.1.seat
  node_follows k a n m (Err f) acts call = record {
    grew = call.2.seat;
    fault = refused_later e (node_limit old n a) f (first_later e (recorded_limit n a) (is_seat_full old) (first_later e (act_limit (Some n.state) a) (is_full n) (act_later plan e k a n.state acts))) call.1;
  }

  pub pair_follows : (p q : Port) (c : Crossing) (near near' far far' : NodeRecord) (answer : Result Reply EventFault) → event_acts {A = Token} plan e ≡ Some (Acts.Joint p q c) → CallsPair false old new near near' far far' e (joint_of p q c) answer → Follows old new e answer
  pair_follows p q c near near' far far' (Ok r) acts call = record { grew = by_ready (is_ready r) call; fault = tt }
    where
      by_ready : (b : Bool) → IfDone b (PairActed false old new near near' far far' e (joint_of p q c) r × (pair_limit old near far ≡ None)) ((pair_step (joint_of p q c) near far ≡ None) × SamePair old new near near' far far') → IfDone b (GrewBy old new e r) (new ≡ old)
      by_ready true call = record {
        ticket = call.0.ticket;
        fresh = call.0.fresh;
        listed = call.0.listed;
        suits = pair_suits plan e p q c near far r near'.state far'.state acts call.0.made;
      }
      by_ready false call = call.1.seat
  pair_follows p q c near near' far far' (Err f) acts call = record {
    grew = call.2.seat;
    fault = refused_later e (pair_limit old near far) f (full_later e (is_full near || (is_full far || is_seat_full old))) call.1;
  }

-- whatever a call is answered, the seat has its word and its number
pub same_seat : (old new : SeatView) (e : Event) (answer : Result Reply EventFault) → Grew old new e answer → IsSameSeat old new
same_seat old new e (Ok r) grew = by_ready (is_ready r) grew
  where
    by_ready : (b : Bool) → IfDone b (GrewBy old new e r) (new ≡ old) → IsSameSeat old new
    by_ready true grew = record {
      word_id = ap (λ (s : SeatView). s.word_id) grew.listed;
      terms = ap (λ (s : SeatView). s.terms) grew.listed;
      number = ap (λ (s : SeatView). s.number) grew.listed;
      lent = ap (λ (s : SeatView). s.lent) grew.listed;
    }
    by_ready false same = record {
      word_id = ap (λ (s : SeatView). s.word_id) same;
      terms = ap (λ (s : SeatView). s.terms) same;
      number = ap (λ (s : SeatView). s.number) same;
      lent = ap (λ (s : SeatView). s.lent) same;
    }
same_seat old new e (Err f) same = record {
  word_id = ap (λ (s : SeatView). s.word_id) same;
  terms = ap (λ (s : SeatView). s.terms) same;
  number = ap (λ (s : SeatView). s.number) same;
  lent = ap (λ (s : SeatView). s.lent) same;
}
