-- What a meter is told of a network of tagged tokens, which its record determines.
use Rattle.{c104_event.specs.declared.{events.Event.Event, faults.EventFault.EventFault}, c104_net.specs.TracedEnds.traced_end}
use Rattle.c104_node.specs.{Tagged.{tag, tagged_kind}, declared.tagged.TaggedToken.TaggedToken}
use Rattle.c104_run.specs.{FinishedRecords.record_finish, Meters.{Sees, meter_if, own_reply}, NetRecords.{NetRecord, is_done}}
use Rattle.{c104_run.specs.{Network.Network, RecordedRuns.record_apply, TracedRuns.map_network}, c104_switch.specs.Actions.Reply}
use Rattle.std.specs.Prelude.{Result}

-- the network over tagged tokens
abbrev pub tagged_net : NetRecord → Network TaggedToken
tagged_net r = map_network tag (traced_end (record_finish r))

-- a network with its record, and a meter that was told of it so far
pub record MeteredRecord (M : Type 0) : Type 0 where
  pub net : NetRecord
  pub meter : M

abbrev pub at_meter : {M : Type 0} → NetRecord → M → MeteredRecord M
at_meter net meter = record { net = net; meter = meter }

-- what an event answers, and the network with its record after it, with the meter that is told of the token where one
-- crosses or arrives
abbrev pub record_metered : {M : Type 0} → Sees M TaggedToken → MeteredRecord M → Event
    → Result Reply EventFault × MeteredRecord M
record_metered sees x e =
    let due = record_apply x.net e in
    (due.0, at_meter due.1 (meter_if sees (is_done due.0) x.meter e (own_reply tagged_kind (tagged_net x.net) e)))
