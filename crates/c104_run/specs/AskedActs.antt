-- What an event asks, as it is held: a packet that is to be sent is only lent.
use Rattle.c104_node.specs.{ActLinks.{act_link, action_link}, Acts.IsWithinLimits, PortActs.Acts, declared.acts.ActOf.ActOf}
use Rattle.{c104_plan.specs.{Plans.Plan, Wiring.peer}, c104_run.specs.{EventActs.{Ask, port_place}, Network.{ask_fault, node_fault}}}
use Rattle.c104_run.specs.declared.{asked.Asked.Asked, asks.Ask.Ask as Held}
use Rattle.std.specs.Prelude.{None, Some, length, ◌≡◌, ◌≢◌}

-- what an event asks, whatever the plan
abbrev pub ask_held : {A : Type 0} → Held A → Ask A
ask_held (Held.Switch s a) = Ask.Switch s a
ask_held (Held.Terminal t a) = Ask.Terminal t a
ask_held (Held.Send t packet) = Ask.Terminal t (ActOf.Send packet.now)
ask_held (Held.Over p crossing) = Ask.Over p crossing

-- what is asked of one node goes over no link, and where no packet is sent no limit of one is in the way
abbrev pub IsLone : {A : Type 0} → Held A → Type 0
IsLone (Held.Switch s a) = action_link a ≡ None
IsLone (Held.Terminal t a) = IsWithinLimits a × (act_link a ≡ None)
    × ((plan : Plan) → ask_fault plan (Ask.Terminal t a) ≡ node_fault (length plan.terminals) t None)
IsLone held = Unit {0}

-- the acts that are asked
abbrev pub acts_asked : {A : Type 0} → Asked A → Acts A
acts_asked (Asked.Alone k a) = Acts.Alone k a
acts_asked (Asked.Send k packet) = Acts.Alone k (ActOf.Send packet.now)
acts_asked (Asked.Joint near far joint) = Acts.Joint joint.near joint.far joint.crossing

-- what is asked of one node is within the limits of a packet and goes over no link, and what crosses a wire is asked of
-- the nodes at its two ports, which are two
abbrev pub AreEnds : {A : Type 0} → Plan → Asked A → Type 0
AreEnds plan (Asked.Alone k a) = IsWithinLimits a × (act_link a ≡ None)
AreEnds {A} plan (Asked.Send k packet) = IsWithinLimits {A = A} (ActOf.Send packet.now)
AreEnds plan (Asked.Joint near far joint) =
    (near ≡ port_place plan joint.near) × (far ≡ port_place plan joint.far) × (near ≢ far)
    × (peer plan joint.near ≡ Some joint.far)
