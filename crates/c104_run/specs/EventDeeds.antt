-- The entries of events, which the plan gives their places.
use Rattle.{c104_event.specs.declared.events.Event.Event, c104_node.specs.{PortActs.{Acts, far_act, near_act}, Traces.{Deed, entry_of}}}
use Rattle.{c104_node.specs.{Traces.{full_at, lone_deed, part}, declared.stamps.Stamp.Stamp}, c104_plan.specs.Plans.Plan}
use Rattle.{c104_run.specs.EventActs.{event_acts, port_place}, c104_switch.specs.Actions.{Reply, is_ready}}
use Rattle.{c104_switch.specs.declared.actions.ReplyOf.ReplyOf, c104_token.specs.declared.tokens.Token.Token}
use Rattle.std.specs.Prelude.{Bool, List, [], false, if◌then◌else◌, ◌||◌, ◌∷◌}

-- the entries of some acts that were answered so, in an event of this stamp
abbrev pub acts_deeds : Plan → Stamp → Acts Token → Reply → List Deed
acts_deeds plan stamp (Acts.Alone k a) r = lone_deed stamp k a r
acts_deeds plan stamp (Acts.Joint p q crossing) r =
    if is_ready r
    then (port_place plan p, entry_of stamp (near_act crossing p) r) ∷ (port_place plan q, entry_of stamp (far_act q r) ReplyOf.Done) ∷ []
    else []

-- the entries of an event with this stamp that was answered so; none where it wasn't done
abbrev pub event_deeds : Plan → Stamp → Event → Reply → List Deed
event_deeds plan stamp e r = part [] (λ acts. acts_deeds plan stamp acts r) (event_acts plan e)

module _ {A : Type 0} where
  -- whether a trace is full that some acts would add to
  abbrev pub acts_full : Plan → List Bool → Acts A → Bool
  acts_full plan fulls (Acts.Alone k a) = full_at fulls k
  acts_full plan fulls (Acts.Joint p q crossing) = full_at fulls (port_place plan p) || full_at fulls (port_place plan q)

-- whether a trace is full that an event would add to
abbrev pub event_full : Plan → List Bool → Event → Bool
event_full plan fulls e = part false (λ (acts : Acts Token). acts_full plan fulls acts) (event_acts plan e)
