-- A node behind its lock, with its place and the pass that has the place's track.
use Rattle.{c104_audit.specs.Leads.list_at, c104_event.specs.declared.events.Event.Event, c104_node.specs.{Nodes.Node, PortActs.Acts}}
use Rattle.c104_node.specs.{Records.{Crossed, NodeRecord, NodeRoom}, declared.{acts.ActOf.ActOf, crossings.Joint.Joint}}
use Rattle.{c104_plan.specs.Plans.Plan, c104_run.specs.{EventActs.{event_acts, port_place}, Network.event_fault}}
use Rattle.{c104_switch.specs.{Actions.Reply, declared.actions.ReplyOf.ReplyOf}, c104_tickets.specs.Tickets.{Each, PassValue, TableId}}
use Rattle.{c104_tickets.specs.declared.views.{Deed.Deed, Done.Done}, c104_token.specs.declared.tokens.Token.Token}
use Rattle.{c104_turns.specs.{Calls.place_track, Logs.{IsDoneHere, entries_of}}, c104_workers.specs.Fabrics.Handed}
use Rattle.std.specs.Prelude.{List, None, Option, Some, [], slice_get, ℕ, ◌++◌, ◌∷◌, ◌≡◌, ◌≢◌}

-- a node behind its lock as it is seen: its place, and the node
pub record HeldView : Type 0 where
  pub place : ℕ
  pub node : NodeRecord × NodeRoom

-- what its type keeps: it has the pass with the track of its place and no other, and the node did just what that tells, on
-- top of what it had done before; it started as it did before. All that the track has was done on the fabric's own nodes.
pub record IsHeld (word_id : TableId) (handed : Handed) (place : ℕ) (node : NodeRecord) (pass : Option PassValue) : Type 0 where
  pub own : PassValue
  pub is : pass ≡ Some own
  pub word : own.word_id ≡ word_id
  pub done : List Done
  pub tracks : own.view.tracks ≡ place_track place done ∷ []
  pub start : slice_get handed.starts place ≡ Some node.start
  pub trace : node.trace ≡ list_at handed.before place ++ entries_of handed.plan place done
  pub here : Each (IsDoneHere handed.plan) done

-- what is answered where something is done; nothing is said of what isn't ready
abbrev pub told_or : Option (Reply × Node Token) → Reply
told_or None = ReplyOf.NotReady
told_or (Some r) = r.0

abbrev pub crossed_or : Option Crossed → Reply
crossed_or None = ReplyOf.NotReady
crossed_or (Some c) = c.told

-- what a seat does on nodes that were lent, on one of the fabric's own nodes, and on the two at the ends of a wire
abbrev pub lent_deed : ℕ → Event → Reply → Deed
lent_deed seat e r = record { seat = seat; near = None; far = None; event = e; reply = r; terminal = 0; number = 0 }

abbrev pub node_deed : ℕ → ℕ → Event → Reply → Deed
node_deed seat place e r = record { seat = seat; near = Some place; far = None; event = e; reply = r; terminal = 0; number = 0 }

abbrev pub pair_deed : ℕ → ℕ → ℕ → Event → Reply → Deed
pair_deed seat near far e r = record { seat = seat; near = Some near; far = Some far; event = e; reply = r; terminal = 0; number = 0 }

-- an event can happen, and is this act of the node at this place
abbrev pub AsksNode : Plan → Event → ℕ → ActOf Token → Type 0
AsksNode plan e k a = (event_fault plan e ≡ None) × (event_acts {A = Token} plan e ≡ Some (Acts.Alone k a))

-- or that something crosses a wire between the nodes at these two places
abbrev pub AsksPair : Plan → Event → Joint → ℕ → ℕ → Type 0
AsksPair plan e joint near far =
    (event_fault plan e ≡ None) × (event_acts {A = Token} plan e ≡ Some (Acts.Joint joint.near joint.far joint.crossing))
    × (near ≡ port_place plan joint.near) × (far ≡ port_place plan joint.far) × (near ≢ far)
