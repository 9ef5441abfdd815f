-- The acts of the nodes at ports: an act of one node, or one at each of two ports; and what limits them.
use Rattle.{c104_event.specs.declared.faults.EventFault.EventFault, c104_link.specs.Steps.◌>>=◌, c104_node.specs.Acts.nodes_act}
use Rattle.c104_node.specs.{Nodes.{Node, arrived_tokens, waiting_tokens}, declared.{acts.ActOf.ActOf, crossings.Crossing.Crossing}}
use Rattle.{c104_node.specs.declared.crossings.Crossing.TheVariants.{Grant, Token}, c104_plan.specs.declared.ports.Port.Port}
use Rattle.{c104_switch.specs.declared.actions.{ActionOf.ActionOf, ReplyOf.ReplyOf}, c104_token.specs.Kinds.Kind}
use Rattle.std.specs.Prelude.{List, None, Option, Some, if◌then◌else◌, length, nat_le, nat_lt, slice_get, ℕ, ◌+◌}

-- the acts at a port: a token goes out there over its wire, or one comes in; it grants eight more, or is granted them
abbrev pub port_leave : {A : Type 0} → Port → ActOf A
port_leave (Port.Switch s l) = ActOf.Step (ActionOf.Leave l)
port_leave (Port.Terminal t) = ActOf.Leave

abbrev pub port_enter : {A : Type 0} → A → Port → ActOf A
port_enter x (Port.Switch s l) = ActOf.Step (ActionOf.Enter l x)
port_enter x (Port.Terminal t) = ActOf.Enter x

abbrev pub port_credit_out : {A : Type 0} → Port → ActOf A
port_credit_out (Port.Switch s l) = ActOf.Step (ActionOf.CreditOut l)
port_credit_out (Port.Terminal t) = ActOf.CreditOut

abbrev pub port_credit_in : {A : Type 0} → Port → ActOf A
port_credit_in (Port.Switch s l) = ActOf.Step (ActionOf.CreditIn l)
port_credit_in (Port.Terminal t) = ActOf.CreditIn

-- the acts of an event: one of the node at a place, or one at each of two ports
pub data Acts (A : Type 0) : Type 0 where
  Alone : ℕ → ActOf A → Acts A
  Joint : Port → Port → Crossing → Acts A

-- the act at the port from which something crosses
abbrev pub near_act : {A : Type 0} → Crossing → Port → ActOf A
near_act Token p = port_leave p
near_act Grant p = port_credit_out p

-- the act at the other port, by what the first one answered
abbrev pub far_act : {A : Type 0} → Port → ReplyOf A → ActOf A
far_act q (ReplyOf.Token x) = port_enter x q
far_act q ReplyOf.Done = port_credit_in q
far_act q ReplyOf.NotReady = port_credit_in q
far_act q (ReplyOf.Control bytes) = port_credit_in q

-- what the act at the first port answers, where it is ready: a token that goes out, or that eight were granted
abbrev pub IsAnswerOf : {A : Type 0} → Crossing → ReplyOf A → Type 0
IsAnswerOf Token ReplyOf.Done = ⊥
IsAnswerOf Token ReplyOf.NotReady = ⊥
IsAnswerOf Token (ReplyOf.Token x) = Unit {0}
IsAnswerOf Token (ReplyOf.Control bytes) = ⊥
IsAnswerOf Grant ReplyOf.Done = Unit {0}
IsAnswerOf Grant ReplyOf.NotReady = ⊥
IsAnswerOf Grant (ReplyOf.Token x) = ⊥
IsAnswerOf Grant (ReplyOf.Control bytes) = ⊥

-- how many tokens may wait at a terminal to go out
abbrev pub outbox_limit : ℕ
outbox_limit = 65536

-- how many tokens may have arrived at a terminal
abbrev pub inbox_limit : ℕ
inbox_limit = 262144

module _ {A : Type 0} where
  -- why an act that is ready can't be done now: a terminal's list would pass its limit
  abbrev pub act_limit : Option (Node A) → ActOf A → Option EventFault
  act_limit (Some n) (ActOf.Send packet) =
      if nat_le (length (waiting_tokens n) + length packet.bytes + 1) outbox_limit then None else Some EventFault.OutboxFull
  act_limit (Some n) ActOf.Drain =
      if nat_lt (length (arrived_tokens n)) inbox_limit then None else Some EventFault.InboxFull
  act_limit at a = None

  -- the same of some acts: nothing limits what crosses a wire
  abbrev pub acts_limit : List (Node A) → Acts A → Option EventFault
  acts_limit nodes (Alone k a) = act_limit (slice_get nodes k) a
  acts_limit nodes (Joint p q crossing) = None

module _ {A : Type 0} (kind : Kind A) where
  -- what crosses a wire between the nodes at two places: it is answered as it goes out, and comes in at the other port
  abbrev pub joint_step : ℕ → ℕ → Port → Port → Crossing → List (Node A) → Option (ReplyOf A × List (Node A))
  joint_step near far p q crossing nodes =
      nodes_act kind nodes near 0 (near_act crossing p) >>= (λ r.
      nodes_act kind r.1 far 0 (far_act q r.0) >>= (λ s. Some (r.0, s.1)))
