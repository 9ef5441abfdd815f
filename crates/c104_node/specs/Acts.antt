-- What a node does and answers, one word for every act.
use Rattle.{c104_link.specs.Steps.{yield_step_at, ◌>>=◌}, c104_node.specs.Nodes.{Node, node_claim, node_control, node_credit_in}}
use Rattle.c104_node.specs.{Nodes.{node_credit_out, node_drain, node_enter, node_input, node_leave, node_send}, declared.acts.ActOf.ActOf}
use Rattle.{c104_node.specs.declared.node.NodeOf.TheVariants.{Switch, Terminal}, c104_switch.specs.Actions.Reply}
use Rattle.{c104_switch.specs.declared.actions.{ActionOf.ActionOf, ReplyOf.ReplyOf}, c104_token.specs.Kinds.Kind}
use Rattle.c104_token.specs.declared.text.TheConstants.{MAX_PACKET_BYTES}
use Rattle.std.specs.Prelude.{All, Bool, List, None, Option, Some, false, length, true, ℕ, ◌<◌, ◌≤◌}

-- what is answered, and what is left, where nothing else comes of a step
abbrev pub done_by : {A S : Type 0} → Option S → Option (ReplyOf A × S)
done_by made = made >>= (λ s. Some (ReplyOf.Done, s))

-- the same, where a token comes of it
abbrev pub token_by : {A S : Type 0} → Option (A × S) → Option (ReplyOf A × S)
token_by made = made >>= (λ r. Some (ReplyOf.Token r.0, r.1))

-- the same, where a switch replies to a command
abbrev pub control_by : {A S : Type 0} → Option (List ℕ × S) → Option (ReplyOf A × S)
control_by made = made >>= (λ r. Some (ReplyOf.Control r.0, r.1))

-- what is answered and left: what is due, or NotReady and nothing changed
abbrev pub reply_outcome : {A S : Type 0} → Option (ReplyOf A × S) → S → ReplyOf A × S
reply_outcome (Some r) old = r
reply_outcome None old = (ReplyOf.NotReady, old)

module _ {A : Type 0} (kind : Kind A) where
  -- an action of a node, as the step of it that the action's name says
  abbrev pub node_step : ActionOf A → Node A → Option (ReplyOf A × Node A)
  node_step (ActionOf.Enter l x) n = done_by (node_enter x l n)
  node_step (ActionOf.Leave l) n = token_by (node_leave l n)
  node_step (ActionOf.CreditOut l) n = done_by (node_credit_out l n)
  node_step (ActionOf.CreditIn l) n = done_by (node_credit_in l n)
  node_step (ActionOf.Input l word) n = done_by (node_input kind l word n)
  node_step (ActionOf.Claim i o) n = done_by (node_claim i o n)
  node_step (ActionOf.Control bytes) n = control_by (node_control bytes n)

  -- what an act of a node answers and leaves, where it is ready: actions are a switch's, and all else is
  -- the terminal's of this number
  abbrev pub node_act : ℕ → ActOf A → Node A → Option (ReplyOf A × Node A)
  node_act number (ActOf.Step a) (Switch s) = node_step a (Switch s)
  node_act number (ActOf.Step a) (Terminal t) = None
  node_act number (ActOf.Send packet) n = done_by (node_send kind number packet n)
  node_act number ActOf.Drain n = token_by (node_drain n)
  node_act number ActOf.Leave (Switch s) = None
  node_act number ActOf.Leave (Terminal t) = token_by (node_leave 0 (Terminal t))
  node_act number (ActOf.Enter x) (Switch s) = None
  node_act number (ActOf.Enter x) (Terminal t) = done_by (node_enter x 0 (Terminal t))
  node_act number ActOf.CreditOut (Switch s) = None
  node_act number ActOf.CreditOut (Terminal t) = done_by (node_credit_out 0 (Terminal t))
  node_act number ActOf.CreditIn (Switch s) = None
  node_act number ActOf.CreditIn (Terminal t) = done_by (node_credit_in 0 (Terminal t))

  -- the same of the node at a place, with the nodes after it
  abbrev pub nodes_act : List (Node A) → ℕ → ℕ → ActOf A → Option (ReplyOf A × List (Node A))
  nodes_act nodes place number a = yield_step_at nodes place (node_act number a)

  -- a reply as it is told, with a plain token
  abbrev pub plain_reply : ReplyOf A → Reply
  plain_reply ReplyOf.Done = ReplyOf.Done
  plain_reply ReplyOf.NotReady = ReplyOf.NotReady
  plain_reply (ReplyOf.Token x) = ReplyOf.Token (kind.plain x)
  plain_reply (ReplyOf.Control bytes) = ReplyOf.Control bytes

-- an act is within the limits of a packet: one that is sent has at most 4,096 bytes, and each is below 256
abbrev pub IsWithinLimits : {A : Type 0} → ActOf A → Type 0
IsWithinLimits (ActOf.Send packet) = (length packet.bytes ≤ MAX_PACKET_BYTES) × All (λ (b : ℕ). b < 256) packet.bytes
IsWithinLimits a = Unit {0}

-- whether an act may want memory
abbrev pub wants_memory : {A : Type 0} → ActOf A → Bool
wants_memory (ActOf.Send packet) = true
wants_memory ActOf.Drain = true
wants_memory a = false
