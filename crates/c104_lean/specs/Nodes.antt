-- A node behind its lock, with its place and the pass that has the place's track.
use Rattle.{c104_event.specs.declared.events.Event.Event, c104_lean.specs.OwnRuns.{IsDoneHere, OwnRun, told_number, told_terminal}}
use Rattle.{c104_lean.specs.Shared.Before, c104_node.specs.{Acts.plain_reply, PortActs.Acts, Tagged.{TaggedToken, tagged_kind}}}
use Rattle.{c104_node.specs.{TracedRecords.TracedRecord, declared.{acts.ActOf.ActOf, crossings.Joint.Joint}}, c104_plan.specs.Plans.Plan}
use Rattle.{c104_run.specs.{EventActs.{event_acts, port_place}, Network.event_fault}, c104_switch.specs.declared.actions.ReplyOf.ReplyOf}
use Rattle.c104_tickets.specs.{Tickets.{Each, PassValue, TableId}, declared.views.{Deed.Deed, Done.Done}}
use Rattle.c104_turns.specs.Calls.{place_track}
use Rattle.std.specs.Prelude.{List, None, Option, Some, [], slice_get, ℕ, ◌∷◌, ◌≡◌, ◌≢◌}

-- a node behind its lock as it is seen: its place, and the node
pub record HeldView : Type 0 where
  pub place : ℕ
  pub node : TracedRecord

-- what its type keeps: it has the pass with the track of its place and no other, and the node did just what that tells, from
-- where it stood
pub record IsHeld (word_id : TableId) (before : Before) (place : ℕ) (node : TracedRecord) (pass : Option PassValue) : Type 0 where
  pub own : PassValue
  pub is : pass ≡ Some own
  pub word : own.word_id ≡ word_id
  pub done : List Done
  pub tracks : own.view.tracks ≡ place_track place done ∷ []
  pub from : TracedRecord
  pub stood : slice_get before.places place ≡ Some from
  pub run : OwnRun before.plan place from done node
  pub here : Each (IsDoneHere before.plan) done

-- what is done through a seat on the node at a place, and on the two at the ends of a wire
abbrev pub alone_deed : ℕ → ℕ → Event → ReplyOf TaggedToken → Deed
alone_deed seat place e r = record {
  seat = seat;
  near = Some place;
  far = None;
  event = e;
  reply = plain_reply tagged_kind r;
  terminal = told_terminal r;
  number = told_number r;
}

abbrev pub both_deed : ℕ → ℕ × ℕ → Event → ReplyOf TaggedToken → Deed
both_deed seat places e r = record {
  seat = seat;
  near = Some places.0;
  far = Some places.1;
  event = e;
  reply = plain_reply tagged_kind r;
  terminal = told_terminal r;
  number = told_number r;
}

-- an event can happen, and is this act of the node at this place
abbrev pub AsksNode : Plan → Event → ℕ → ActOf TaggedToken → Type 0
AsksNode plan e k a = (event_fault plan e ≡ None) × (event_acts {A = TaggedToken} plan e ≡ Some (Acts.Alone k a))

-- or that something crosses a wire between the nodes at these two places
abbrev pub AsksBoth : Plan → Event → Joint → ℕ → ℕ → Type 0
AsksBoth plan e joint near far =
    (event_fault plan e ≡ None) × (event_acts {A = TaggedToken} plan e ≡ Some (Acts.Joint joint.near joint.far joint.crossing))
    × (near ≡ port_place plan joint.near) × (far ≡ port_place plan joint.far) × (near ≢ far)
