-- What is kept of acts: entries, which lie in the traces of nodes by the order of events.
use Rattle.c104_node.specs.{Acts.plain_reply, PortActs.{far_act, near_act}, declared.acts.{ActOf.ActOf, Entry.Entry}}
use Rattle.{c104_node.specs.declared.{crossings.Crossing.Crossing, stamps.Stamp.Stamp}, c104_plan.specs.declared.ports.Port.Port}
use Rattle.c104_switch.specs.{Actions.{Action, Reply, is_ready}, declared.actions.{ActionOf.ActionOf, ReplyOf.ReplyOf}}
use Rattle.c104_token.specs.{Kinds.Kind, declared.tokens.Token.Token}
use Rattle.std.specs.Prelude.{Bool, Err, List, None, Ok, Option, Result, Some, [], false, if◌then◌else◌, length, nat_le, slice_get}
use Rattle.std.specs.Prelude.{slice_set, true, unwrap_or, ℕ, ◌++◌, ◌∷◌}

-- the most entries of a trace
abbrev pub trace_limit : ℕ
trace_limit = 1048576

-- whether a trace has as many entries as it may have
abbrev pub is_trace_full : List Entry → Bool
is_trace_full trace = nat_le trace_limit (length trace)

-- the stamp of an event that no seat asked for
abbrev pub seatless : ℕ → Stamp
seatless ticket = record { ticket = ticket; seat = None }

-- the entry of an act in the event of this stamp, which was answered so
abbrev pub entry_of : Stamp → ActOf Token → Reply → Entry
entry_of stamp a r = record { ticket = stamp.ticket; act = a; reply = r; seat = stamp.seat }

module _ {A : Type 0} (kind : Kind A) where
  -- an action as it is kept, with a plain token
  abbrev pub plain_action : ActionOf A → Action
  plain_action (ActionOf.Enter l x) = ActionOf.Enter l (kind.plain x)
  plain_action (ActionOf.Leave l) = ActionOf.Leave l
  plain_action (ActionOf.CreditOut l) = ActionOf.CreditOut l
  plain_action (ActionOf.CreditIn l) = ActionOf.CreditIn l
  plain_action (ActionOf.Input l word) = ActionOf.Input l word
  plain_action (ActionOf.Claim i o) = ActionOf.Claim i o
  plain_action (ActionOf.Control bytes) = ActionOf.Control bytes

  -- an act as it is kept, with a plain token
  abbrev pub plain_act : ActOf A → ActOf Token
  plain_act (ActOf.Step a) = ActOf.Step (plain_action a)
  plain_act (ActOf.Send packet) = ActOf.Send packet
  plain_act ActOf.Drain = ActOf.Drain
  plain_act ActOf.Leave = ActOf.Leave
  plain_act (ActOf.Enter x) = ActOf.Enter (kind.plain x)
  plain_act ActOf.CreditOut = ActOf.CreditOut
  plain_act ActOf.CreditIn = ActOf.CreditIn

  -- the entry that is kept of an act that was answered so
  abbrev pub kept_entry : Stamp → ActOf A → ReplyOf A → Entry
  kept_entry stamp a r = entry_of stamp (plain_act a) (plain_reply kind r)

-- an entry joins a trace, where entries are kept
abbrev pub noted : {X : Type 0} → Bool → List X → X → List X
noted true trace e = trace ++ e ∷ []
noted false trace e = trace

-- an entry joins a trace of a list, where entries are kept
abbrev pub noted_in : {X : Type 0} → Bool → List (List X) → ℕ → X → Option (List X) → List (List X)
noted_in keeps traces k e None = traces
noted_in keeps traces k e (Some trace) = slice_set traces k (noted keeps trace e)

-- an entry joins the trace at a place, where entries are kept
abbrev pub noted_at : {X : Type 0} → Bool → List (List X) → ℕ → X → List (List X)
noted_at keeps traces k e = noted_in keeps traces k e (slice_get traces k)

-- an entry, with the place of its node
abbrev pub Deed : Type 0
Deed = ℕ × Entry

-- the entries of some acts join the traces in turn
abbrev pub noted_all : Bool → List (List Entry) → List Deed → List (List Entry)
noted_all keeps traces [] = traces
noted_all keeps traces (d ∷ deeds) = noted_all keeps (noted_at keeps traces d.0 d.1) deeds

-- a thing of what there is, or else another
abbrev pub part : {X Y : Type 0} → Y → (X → Y) → Option X → Y
part d f None = d
part d f (Some x) = f x

-- the entry of one act, where it was done
abbrev pub lone_deed : Stamp → ℕ → ActOf Token → Reply → List Deed
lone_deed stamp k a r = if is_ready r then (k, entry_of stamp a r) ∷ [] else []

-- the entries of what crossed a wire between the nodes at two places, where it was answered so
abbrev pub joint_deeds : {A : Type 0} → Kind A → Stamp → ℕ → ℕ → Port → Port → Crossing → ReplyOf A → List Deed
joint_deeds kind stamp near far p q crossing told =
    if is_ready told
    then (near, kept_entry kind stamp (near_act crossing p) told) ∷ (far, kept_entry kind stamp (far_act q told) ReplyOf.Done) ∷ []
    else []

-- what is kept of an answer: nothing where it was refused
abbrev pub kept_of : {X E : Type 0} → (X → List Deed) → Result X E → List Deed
kept_of deeds (Ok x) = deeds x
kept_of deeds (Err e) = []

-- whether the trace at a place is full
abbrev pub full_at : List Bool → ℕ → Bool
full_at fulls k = unwrap_or (slice_get fulls k) false
