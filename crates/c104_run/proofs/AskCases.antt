-- What holds of the fault of each event and of what it asks, by what there is to ask. So what is proved of all events names
-- none of them, but here.
use Rattle.{c104_event.specs.declared.{events.Event.Event, faults.EventFault.EventFault}, c104_node.specs.declared.acts.ActOf.ActOf}
use Rattle.{c104_node.specs.declared.crossings.Crossing.Crossing, c104_plan.specs.{Plans.Plan, declared.ports.Port.Port}}
use Rattle.c104_run.specs.{EventActs.{Ask, event_ask}, Network.{event_fault, node_fault, wired_fault}}
use Rattle.{c104_switch.specs.declared.actions.ActionOf.ActionOf, c104_token.specs.declared.packets.Packet.Packet, std.proofs.Common.List}
use Rattle.std.proofs.Common.{Option, arith, length, ℕ}

module _ {A : Type 0} (plan : Plan) (P : Option EventFault → Ask A → Type 0) where
  -- it holds of whatever is asked, at any port, switch and terminal, with the fault that comes where there is none
  pub record AreCases : Type 0 where
    pub over : (p : Port) (crossing : Crossing) → P (wired_fault plan p) (Ask.Over p crossing)
    pub turn : (s l word : ℕ) (other : Option EventFault) → P (node_fault (length plan.switches) s other) (Ask.Switch s (ActionOf.Input l word))
    pub claim : (s i o : ℕ) (other : Option EventFault) → P (node_fault (length plan.switches) s other) (Ask.Switch s (ActionOf.Claim i o))
    pub control : (s : ℕ) (bytes : List ℕ) (other : Option EventFault) → P (node_fault (length plan.switches) s other) (Ask.Switch s (ActionOf.Control bytes))
    pub send : (t : ℕ) (packet : Packet) (other : Option EventFault) → P (node_fault (length plan.terminals) t other) (Ask.Terminal t (ActOf.Send packet))
    pub drain : (t : ℕ) (other : Option EventFault) → P (node_fault (length plan.terminals) t other) (Ask.Terminal t ActOf.Drain)

  pub of_event : AreCases → (e : Event) → P (event_fault plan e) (event_ask e)
  of_event cases e = search arith
