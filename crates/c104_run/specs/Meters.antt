-- Meters, which are told of each token that crosses a wire and of each that arrives, and what they are told of events.
use Rattle.{c104_event.specs.declared.{events.Event.Event, faults.EventFault.EventFault}, c104_node.specs.Acts.reply_outcome}
use Rattle.{c104_node.specs.{Places.Shown, PortActs.Acts}, c104_plan.specs.{Plans.Plan, declared.ports.Port.Port}}
use Rattle.c104_run.specs.{EventActs.{acts_step, event_acts}, NetRecords.is_done, Network.Network, Stages.{Stage, stage_apply, stage_of}}
use Rattle.{c104_switch.specs.{Actions.Reply, declared.actions.ReplyOf.ReplyOf}, c104_token.specs.Kinds.Kind}
use Rattle.std.specs.Prelude.{Bool, Err, List, None, Ok, Option, Result, Some, if◌then◌else◌, ℕ}

-- what a meter comes to when it is told that a token crosses the wire at a port, from there, or arrives at a terminal
pub record Sees (M A : Type 0) : Type 0 where
  pub crossed : M → Port → A → M
  pub arrived : M → ℕ → A → M

-- nothing is seen
abbrev pub unseen : {M A : Type 0} → Sees M A
unseen = record { crossed = λ m p x. m; arrived = λ m t x. m }

-- what comes of an answer that is a token, or else
abbrev pub of_token : {M A : Type 0} → (A → M) → M → ReplyOf A → M
of_token seen m ReplyOf.Done = m
of_token seen m ReplyOf.NotReady = m
of_token seen m (ReplyOf.Token x) = seen x
of_token seen m (ReplyOf.Control bytes) = m

-- an answer without its fault: what was refused wasn't ready
abbrev pub reply_given : {A : Type 0} → Result (ReplyOf A) EventFault → ReplyOf A
reply_given (Ok r) = r
reply_given (Err f) = ReplyOf.NotReady

module _ {M A : Type 0} (sees : Sees M A) where
  -- a meter after an event that the network's own tokens answered so
  abbrev pub meter_after : M → Event → ReplyOf A → M
  meter_after m (Event.Cross p) r = of_token (sees.crossed m p) m r
  meter_after m (Event.Drain t) r = of_token (sees.arrived m t) m r
  meter_after m e r = m

  -- the same where it may have been refused
  abbrev pub meter_told : M → Event → Result (ReplyOf A) EventFault → M
  meter_told m e answer = meter_after m e (reply_given answer)

  -- a meter is told of an event that was done
  abbrev pub meter_if : Bool → M → Event → ReplyOf A → M
  meter_if done m e r = if done then meter_after m e r else m

module _ {A : Type 0} (kind : Kind A) where
  -- what acts answer over the network's own tokens; where there are none nothing is ready
  abbrev pub own_answer : Network A → Option (Acts A) → ReplyOf A
  own_answer net None = ReplyOf.NotReady
  own_answer net (Some acts) = (reply_outcome (acts_step kind net.plan net.nodes acts) net.nodes).0

  -- what an event answers over them, where no limit is in the way
  abbrev pub own_reply : Network A → Event → ReplyOf A
  own_reply net e = own_answer net (event_acts net.plan e)

-- a stage of a run, and a meter that was told of it so far
pub record Metered (A M : Type 0) : Type 0 where
  pub stage : Stage A
  pub meter : M

abbrev pub with_meter : {A M : Type 0} → Stage A → M → Metered A M
with_meter stage meter = record { stage = stage; meter = meter }

-- the stage that places show, with a meter
abbrev pub metered_of : {A M : Type 0} → Plan → List (Shown A) → ℕ → M → Metered A M
metered_of plan shown count meter = with_meter (stage_of plan shown count) meter

-- what an event answers, and the stage after it, with the meter that is told of it where it was done
abbrev pub metered_apply : {A M : Type 0} → Kind A → Bool → Sees M A → Metered A M → Event
    → Result Reply EventFault × Metered A M
metered_apply kind keeps sees x e =
    let due = stage_apply kind keeps x.stage e in
    (due.0, with_meter due.1 (meter_if sees (is_done due.0) x.meter e (own_reply kind x.stage.network e)))
