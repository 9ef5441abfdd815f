-- What traces tell of a run that is done once more.
use Rattle.{c104_event.specs.declared.events.Event.Event, c104_net.specs.{ToldEvents.told_events, declared.leading.Lead.Lead}}
use Rattle.{c104_node.specs.declared.acts.Entry.Entry, c104_run.specs.{EventActs.act_event, NetRecords.NetRecord}}
use Rattle.std.specs.Prelude.{List, None, Option, Some, [], slice_get, unwrap_or, ℕ, ◌++◌, ◌≡◌}

-- an event, if there is one, and else a certain one in its place
abbrev pub event_or : Option Event → Event
event_or None = Event.Drain 0
event_or (Some e) = e

-- the event that an entry of the node at a place leads in, if there is an entry and it leads
abbrev pub entry_event : ℕ → ℕ → Option Entry → Event
entry_event switches k None = event_or None
entry_event switches k (Some e) = event_or (act_event switches k e.act)

-- the ticket of an entry that leads, and the event that it leads in, as it stands in the traces
abbrev pub lead_event : ℕ → List (List Entry) → Lead → ℕ × Event
lead_event switches traces x =
    (x.ticket, entry_event switches x.place (slice_get (unwrap_or (slice_get traces x.place) []) x.at))

-- an entry that leads, with its ticket
abbrev pub with_ticket : Lead → ℕ × Lead
with_ticket x = (x.ticket, x)

-- a network of tagged tokens before events were done again, and after: its traces tell these events after those that they
-- told, and its plan and its starts stay
pub record TellsOn (old : NetRecord) (events : List Event) (new : NetRecord) : Type 0 where
  pub plan : new.network.plan ≡ old.network.plan
  pub starts : new.starts ≡ old.starts
  pub told : told_events new.network.plan new.traces ≡ told_events old.network.plan old.traces ++ events
