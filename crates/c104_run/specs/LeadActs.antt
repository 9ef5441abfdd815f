-- The act that leads in an event, by what the event asks: the act of one node, or, of the two at the ends of a wire, that of
-- the node where something goes out.
use Rattle.{c104_node.specs.{PortActs.near_act, declared.acts.ActOf.ActOf}, c104_plan.specs.declared.ports.Port.Port}
use Rattle.c104_run.specs.EventActs.{Ask}
use Rattle.std.specs.Prelude.{ℕ, ◌-◌, ◌≡◌}

-- the act that leads in what is asked
abbrev pub ask_act : {A : Type 0} → Ask A → ActOf A
ask_act (Ask.Switch s a) = ActOf.Step a
ask_act (Ask.Terminal t a) = a
ask_act (Ask.Over p crossing) = near_act crossing p

-- the number of its node among the switches, or among the terminals
abbrev pub ask_number : {A : Type 0} → Ask A → ℕ
ask_number (Ask.Switch s a) = s
ask_number (Ask.Terminal t a) = t
ask_number (Ask.Over (Port.Switch s l) crossing) = s
ask_number (Ask.Over (Port.Terminal t) crossing) = t

-- the number of the node at a place that does an act, by the number of switches: they do actions, and terminals all else
abbrev pub act_number : {A : Type 0} → ℕ → ℕ → ActOf A → ℕ
act_number switches k (ActOf.Step a) = k
act_number switches k a = k - switches

-- an act of the node at a place leads in what is asked
abbrev pub LeadsIn : {A : Type 0} → ℕ → ℕ → ActOf A → Ask A → Type 0
LeadsIn switches k a ask = (act_number switches k a ≡ ask_number ask) × (a ≡ ask_act ask)
