-- The links that acts go over.
use Rattle.{c104_node.specs.{Traces.part, declared.acts.ActOf.ActOf}, c104_plan.specs.declared.ports.Port.Port}
use Rattle.c104_switch.specs.declared.actions.ActionOf.{ActionOf}
use Rattle.std.specs.Prelude.{Bool, None, Option, Some, true, ℕ}

-- the link of a port; a terminal's one link is 0
abbrev pub port_link : Port → ℕ
port_link (Port.Switch s l) = l
port_link (Port.Terminal t) = 0

-- the link of a switch that an action goes over, if it goes over one
abbrev pub action_link : {A : Type 0} → ActionOf A → Option ℕ
action_link (ActionOf.Enter l x) = Some l
action_link (ActionOf.Leave l) = Some l
action_link (ActionOf.CreditOut l) = Some l
action_link (ActionOf.CreditIn l) = Some l
action_link a = None

-- the same of an act of a node; the one link of a terminal is 0
abbrev pub act_link : {A : Type 0} → ActOf A → Option ℕ
act_link (ActOf.Step a) = action_link a
act_link ActOf.Leave = Some 0
act_link (ActOf.Enter x) = Some 0
act_link ActOf.CreditOut = Some 0
act_link ActOf.CreditIn = Some 0
act_link a = None

-- whether an act goes over no link, or over one of these
abbrev pub on_links : {A : Type 0} → (ℕ → Bool) → ActOf A → Bool
on_links links a = part true links (act_link a)
