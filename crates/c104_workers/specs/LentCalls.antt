-- What one call does to the nodes that are lent to it: one, or the two at the ends of a wire.
use Rattle.{c104_event.specs.declared.{events.Event.Event, faults.EventFault.EventFault}, c104_node.specs.PortActs.{Acts, far_act}}
use Rattle.c104_node.specs.{PortActs.near_act, Records.{HasRoomFor, NodeRecord, NodeRoom, after_act, crossed, fault_first, is_full}}
use Rattle.c104_node.specs.{Records.{pair_step, recorded_limit, recorded_step}, declared.{acts.ActOf.ActOf, crossings.Crossing.Crossing}}
use Rattle.{c104_node.specs.declared.crossings.Joint.Joint, c104_plan.specs.{Plans.Plan, declared.ports.Port.Port}}
use Rattle.{c104_run.specs.{EventActs.{event_acts, port_place}, declared.asked.Asked.Asked}, c104_switch.specs.Actions.{Reply, is_ready}}
use Rattle.{c104_switch.specs.declared.actions.ReplyOf.ReplyOf, c104_token.specs.declared.{packets.Packet.Packet, tokens.Token.Token}}
use Rattle.{c104_turns.specs.Calls.{IfDone, IsFresh, SeatView, after_call, seat_stamp}, c104_workers.specs.Seats.is_seat_full}
use Rattle.std.{proofs.Common.{inl, inr}, specs.Prelude.{Bool, Err, None, Ok, Option, Result, Some, false, if◌then◌else◌, is_some, nat_lt}}
use Rattle.std.specs.Prelude.{option_map, true, ℕ, ◌<◌, ◌||◌, ◌≡◌, ◌⊎◌}
use denote.MutBor.{MutBor}

-- one node acted, which was lent or is the fabric's own: the seat has the call, and the node's trace its entry, both with one ticket
pub record NodeActed (lent : Bool) (old new : SeatView) (n m : NodeRecord) (e : Event) (a : ActOf Token) (r : Reply) : Type 0 where
  pub ticket : ℕ
  pub fresh : IsFresh old ticket
  pub listed : new ≡ after_call lent old e ticket r
  pub made : recorded_step n a ≡ Some (r, m.state)
  pub acted : m ≡ after_act n (seat_stamp ticket old.number) a r m.state

-- something crossed a wire between two nodes: the seat has the call, and each node's trace an entry, all with one ticket
pub record PairActed (lent : Bool) (old new : SeatView) (near near' far far' : NodeRecord) (e : Event) (joint : Joint) (r : Reply)
    : Type 0 where
  pub ticket : ℕ
  pub fresh : IsFresh old ticket
  pub listed : new ≡ after_call lent old e ticket r
  pub made : pair_step joint near far ≡ Some (crossed r near'.state far'.state)
  pub near_acted : near' ≡ after_act near (seat_stamp ticket old.number) (near_act joint.crossing joint.near) r near'.state
  pub far_acted : far' ≡ after_act far (seat_stamp ticket old.number) (far_act joint.far r) ReplyOf.Done far'.state

-- nothing changed
pub record SameNode (old new : SeatView) (n m : NodeRecord) : Type 0 where
  pub seat : new ≡ old
  pub node : m ≡ n

pub record SamePair (old new : SeatView) (near near' far far' : NodeRecord) : Type 0 where
  pub seat : new ≡ old
  pub near_node : near' ≡ near
  pub far_node : far' ≡ far

-- why a call that is ready can't be done now: a limit of the node, or that the seat's list is full
abbrev pub node_limit : SeatView → NodeRecord → ActOf Token → Option EventFault
node_limit s n a = fault_first (recorded_limit n a) (is_seat_full s)

-- the same of what crosses a wire: a trace or the seat's list is full
abbrev pub pair_limit : SeatView → NodeRecord → NodeRecord → Option EventFault
pair_limit s near far = fault_first None (is_full near || (is_full far || is_seat_full s))

-- a refusal of what is ready: for a limit; where there is none, out of memory
abbrev pub IsRefusal : Option EventFault → EventFault → Type 0
IsRefusal (Some g) f = f ≡ g
IsRefusal None f = f ≡ EventFault.NoMemory

-- a call of an act on a node. It is not ready exactly where the act isn't, and refused exactly for the first limit there
-- is, or when out of memory; then nothing changed. Else it was done.
abbrev pub CallsNode :
    Bool → SeatView → SeatView → NodeRecord → NodeRecord → Event → ActOf Token → Result Reply EventFault → Type 0
CallsNode lent old new n m e a (Ok r) = IfDone (is_ready r)
    (NodeActed lent old new n m e a r × (node_limit old n a ≡ None))
    ((recorded_step n a ≡ None) × SameNode old new n m)
CallsNode lent old new n m e a (Err f) =
    (is_some (recorded_step n a) ≡ true) × IsRefusal (node_limit old n a) f × SameNode old new n m

-- the same of what crosses a wire between two nodes
abbrev pub CallsPair :
    Bool → SeatView → SeatView → NodeRecord → NodeRecord → NodeRecord → NodeRecord
    → Event → Joint → Result Reply EventFault → Type 0
CallsPair lent old new near near' far far' e joint (Ok r) = IfDone (is_ready r)
    (PairActed lent old new near near' far far' e joint r × (pair_limit old near far ≡ None))
    ((pair_step joint near far ≡ None) × SamePair old new near near' far far')
CallsPair lent old new near near' far far' e joint (Err f) =
    (is_some (pair_step joint near far) ≡ true) × IsRefusal (pair_limit old near far) f
    × SamePair old new near near' far far'

abbrev pub joint_of : Port → Port → Crossing → Joint
joint_of p q crossing = record { near = p; far = q; crossing = crossing }

-- the places of the nodes of some acts, the lower first
abbrev pub acts_places : Plan → Acts Token → ℕ × Option ℕ
acts_places plan (Acts.Alone k a) = (k, None)
acts_places plan (Acts.Joint p q crossing) =
    if nat_lt (port_place plan p) (port_place plan q)
    then (port_place plan p, Some (port_place plan q))
    else (port_place plan q, Some (port_place plan p))

-- the places of the nodes of an event
abbrev pub event_places : Plan → Event → Option (ℕ × Option ℕ)
event_places plan e = option_map (acts_places plan) (event_acts plan e)

-- the places of what an event asks, as it is held, the lower first
abbrev pub asked_places : Asked Token → ℕ × Option ℕ
asked_places (Asked.Alone k a) = (k, None)
asked_places (Asked.Send k packet) = (k, None)
asked_places (Asked.Joint near far joint) = if nat_lt near far then (near, Some far) else (far, Some near)

-- places are below a number, the lower first
abbrev pub AreBelow : ℕ → ℕ × Option ℕ → Type 0
AreBelow n (k, None) = k < n
AreBelow n (k, Some l) = (k < l) × (l < n)

-- nodes are lent as an event wants them: one, or two where something crosses a wire
abbrev pub AreLentFor : {X : Type 0} → Option (Acts Token) → Option X → Type 0
AreLentFor None second = ⊥
AreLentFor (Some (Acts.Alone k a)) None = Unit {0}
AreLentFor (Some (Acts.Alone k a)) (Some x) = ⊥
AreLentFor (Some (Acts.Joint p q crossing)) None = ⊥
AreLentFor (Some (Acts.Joint p q crossing)) (Some x) = Unit {0}

-- a call of an event's acts on one node
abbrev pub CallsOne :
    Option (Acts Token) → SeatView → SeatView → NodeRecord → NodeRecord → Event → Result Reply EventFault → Type 0
CallsOne None old new n m e answer = ⊥
CallsOne (Some (Acts.Alone k a)) old new n m e answer = CallsNode true old new n m e a answer
CallsOne (Some (Acts.Joint p q crossing)) old new n m e answer = ⊥

-- a call on two nodes, of which the near one is the lower, or the other way round
abbrev pub CallsPairBy :
    Bool → SeatView → SeatView → NodeRecord → NodeRecord → NodeRecord → NodeRecord
    → Event → Joint → Result Reply EventFault → Type 0
CallsPairBy true old new low low' high high' e joint answer = CallsPair true old new low low' high high' e joint answer
CallsPairBy false old new low low' high high' e joint answer = CallsPair true old new high high' low low' e joint answer

-- a call of an event's acts on two nodes, the lower first
abbrev pub CallsTwo :
    Plan → Option (Acts Token) → SeatView → SeatView → NodeRecord → NodeRecord → NodeRecord → NodeRecord
    → Event → Result Reply EventFault → Type 0
CallsTwo plan None old new low low' high high' e answer = ⊥
CallsTwo plan (Some (Acts.Alone k a)) old new low low' high high' e answer = ⊥
CallsTwo plan (Some (Acts.Joint p q crossing)) old new low low' high high' e answer =
    CallsPairBy (nat_lt (port_place plan p) (port_place plan q)) old new low low' high high' e (joint_of p q crossing) answer

-- a node that is lent, with its memory, and what is left of a second one
abbrev pub NodeValue : Type 0
NodeValue = NodeRecord × NodeRoom

abbrev pub SecondAfter : Type 0
SecondAfter = Unit {0} ⊎ ((MutBor NodeValue × Unit {0}) ⊎ ⊥)

-- a call of an event's acts on one node, or on two
abbrev pub CallsLent :
    Plan → Option (Acts Token) → SeatView → SeatView → NodeRecord → NodeRecord → Option (MutBor NodeValue) → SecondAfter
    → Event → Result Reply EventFault → Type 0
CallsLent plan acts old new n m None after e answer = CallsOne acts old new n m e answer
CallsLent plan acts old new n m (Some b) (inr (inl x)) e answer = CallsTwo plan acts old new n m b.now.0 x.0.now.0 e answer
CallsLent plan acts old new n m (Some b) (inl x) e answer = ⊥
CallsLent plan acts old new n m (Some b) (inr (inr x)) e answer = ⊥

-- a seat and a node before an act: all is as it was, and the act is ready, or it isn't; or it is refused. Where it is ready,
-- no limit refuses it, and there is room for the act and the call
abbrev pub IsPrepared :
    SeatView → SeatView × ℕ → NodeRecord → NodeValue → Event → ActOf Token → Result (Option Event) EventFault → Type 0
IsPrepared old new n m e a (Ok None) = (recorded_step n a ≡ None) × SameNode old new.0 n m.0
IsPrepared old new n m e a (Ok (Some copy)) =
    (copy ≡ e) × (is_some (recorded_step n a) ≡ true) × (recorded_limit n a ≡ None) × (is_seat_full old ≡ false)
    × (0 < new.1) × HasRoomFor m.1 n.state a × SameNode old new.0 n m.0
IsPrepared old new n m e a (Err f) =
    (is_some (recorded_step n a) ≡ true) × IsRefusal (node_limit old n a) f × SameNode old new.0 n m.0

-- the same of a packet that is sent, with its act
abbrev pub IsPreparedSend :
    SeatView → SeatView × ℕ → NodeRecord → NodeValue → Event → Packet → Result (Option (ActOf Token × Event)) EventFault → Type 0
IsPreparedSend old new n m e packet (Ok None) = IsPrepared old new n m e (ActOf.Send packet) (Ok None)
IsPreparedSend old new n m e packet (Ok (Some made)) =
    (made.0 ≡ ActOf.Send packet) × IsPrepared old new n m e (ActOf.Send packet) (Ok (Some made.1))
IsPreparedSend old new n m e packet (Err f) = IsPrepared old new n m e (ActOf.Send packet) (Err f)

-- the same of what crosses a wire between two nodes
abbrev pub IsPreparedPair :
    SeatView → SeatView × ℕ → NodeRecord → NodeValue → NodeRecord → NodeValue
    → Event → Joint → Result (Option Event) EventFault → Type 0
IsPreparedPair old new near near' far far' e joint (Ok None) =
    (pair_step joint near far ≡ None) × SamePair old new.0 near near'.0 far far'.0
IsPreparedPair old new near near' far far' e joint (Ok (Some copy)) =
    (copy ≡ e) × (is_some (pair_step joint near far) ≡ true) × (is_full near ≡ false) × (is_full far ≡ false)
    × (is_seat_full old ≡ false) × (0 < new.1) × (0 < near'.1.entries) × (0 < far'.1.entries)
    × SamePair old new.0 near near'.0 far far'.0
IsPreparedPair old new near near' far far' e joint (Err f) =
    (is_some (pair_step joint near far) ≡ true) × IsRefusal (pair_limit old near far) f
    × SamePair old new.0 near near'.0 far far'.0
