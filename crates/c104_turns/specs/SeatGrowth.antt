-- What a call does to a seat alone, whatever nodes it was about; what an event may be answered, and with which faults.
use Rattle.{c104_event.specs.declared.{events.Event.Event, faults.EventFault.EventFault}, c104_switch.specs.Actions.{Reply, is_ready}}
use Rattle.{c104_switch.specs.declared.actions.ReplyOf.ReplyOf, c104_turns.specs.Calls.{IfDone, IsFresh, SeatView, after_call}}
use Rattle.std.specs.Prelude.{Bool, Err, None, Ok, Option, Result, Some, false, true, ℕ, ◌≡◌}

-- the reply is that something was done, a token, or a switch's reply to a command
abbrev pub IsDoneReply : Reply → Type 0
IsDoneReply ReplyOf.Done = Unit {0}
IsDoneReply r = ⊥

abbrev pub IsTokenReply : Reply → Type 0
IsTokenReply (ReplyOf.Token x) = Unit {0}
IsTokenReply r = ⊥

abbrev pub IsCommandReply : Reply → Type 0
IsCommandReply (ReplyOf.Control bytes) = Unit {0}
IsCommandReply r = ⊥

-- what an event that was done is answered
abbrev pub IsReplyTo : Event → Reply → Type 0
IsReplyTo (Event.Cross p) r = IsTokenReply r
IsReplyTo (Event.Drain t) r = IsTokenReply r
IsReplyTo (Event.Control s bytes) r = IsCommandReply r
IsReplyTo e r = IsDoneReply r

-- a seat's list grew by one call, of this event and with this reply, whose ticket was drawn for it
pub record GrewBy (old new : SeatView) (e : Event) (r : Reply) : Type 0 where
  pub ticket : ℕ
  pub fresh : IsFresh old ticket
  pub listed : new ≡ after_call false old e ticket r
  pub suits : IsReplyTo e r

-- the same where the event was done; else the seat is as it was
abbrev pub Grew : SeatView → SeatView → Event → Result Reply EventFault → Type 0
Grew old new e (Ok r) = IfDone (is_ready r) (GrewBy old new e r) (new ≡ old)
Grew old new e (Err f) = new ≡ old

-- whether an event is that a terminal sends a packet, or that a token arrives
abbrev pub is_send : Event → Bool
is_send (Event.Send t packet) = true
is_send e = false

abbrev pub is_drain : Event → Bool
is_drain (Event.Drain t) = true
is_drain e = false

-- a fault of an event that can happen: a terminal's list is full that the event adds to, or a trace or the seat's list
-- is, or memory has run out
abbrev pub IsLaterFault : Event → EventFault → Type 0
IsLaterFault e EventFault.OutboxFull = is_send e ≡ true
IsLaterFault e EventFault.InboxFull = is_drain e ≡ true
IsLaterFault e EventFault.TraceFull = Unit {0}
IsLaterFault e EventFault.NoMemory = Unit {0}
IsLaterFault e f = ⊥

-- where an event can't happen, its fault is answered; else no other fault than these
abbrev pub FaultsAs : Option EventFault → Event → Result Reply EventFault → Type 0
FaultsAs (Some f) e answer = answer ≡ Err f
FaultsAs None e (Ok r) = Unit {0}
FaultsAs None e (Err f) = IsLaterFault e f

-- what is known of a seat after a call of an event that can happen
pub record Follows (old new : SeatView) (e : Event) (answer : Result Reply EventFault) : Type 0 where
  pub grew : Grew old new e answer
  pub fault : FaultsAs None e answer
