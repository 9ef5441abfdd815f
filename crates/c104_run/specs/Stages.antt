-- Stages of a run: a network, what is kept beside its nodes, and how many events were done; and what an
-- event answers and leaves there.
use Rattle.{c104_event.specs.declared.{events.Event.Event, faults.EventFault.EventFault}, c104_node.specs.Places.{PlaceBase, Shown, bases}}
use Rattle.c104_node.specs.{Places.{is_kept_full, states, traces}, Traces.{kept_of, noted_all, seatless}, declared.acts.Entry.Entry}
use Rattle.{c104_plan.specs.Plans.Plan, c104_run.specs.{EventDeeds.{event_deeds, event_full}, NetRecords.{is_done, ticket_after}}}
use Rattle.{c104_run.specs.Network.{Network, network_apply, network_of}, c104_switch.specs.Actions.Reply, c104_token.specs.Kinds.Kind}
use Rattle.std.specs.Prelude.{Bool, Err, List, Result, if◌then◌else◌, map, ℕ, ◌&&◌}

-- a stage of a run: the network, what no act changes of the places of its nodes, the entries that are kept of
-- them, and how many events were done
pub record Stage (A : Type 0) : Type 0 where
  pub network : Network A
  pub bases : List PlaceBase
  pub traces : List (List Entry)
  pub count : ℕ

-- the stage that places show
abbrev pub stage_of : {A : Type 0} → Plan → List (Shown A) → ℕ → Stage A
stage_of plan shown count = record {
  network = network_of plan (states shown);
  bases = bases shown;
  traces = traces shown;
  count = count;
}

-- an event that would be done is refused, with nothing changed, where a trace that would grow is full
abbrev pub unless_full : {A : Type 0} → Bool → Network A → Result Reply EventFault × Network A →
    Result Reply EventFault × Network A
unless_full full net due = if full && is_done due.0 then (Err EventFault.TraceFull, net) else due

module _ {A : Type 0} (keeps : Bool) where
  -- whether a trace is full that an event would add to
  abbrev pub stage_full : Stage A → Event → Bool
  stage_full s e = event_full s.network.plan (map (is_kept_full keeps) s.traces) e

  -- the stage after an event that came to this: its entries join the traces, if entries are kept, and it
  -- is counted, where it was done
  abbrev pub stage_after : Stage A → Event → Result Reply EventFault × Network A → Result Reply EventFault × Stage A
  stage_after s e due = (
    due.0,
    record {
      network = due.1;
      bases = s.bases;
      traces = noted_all keeps s.traces
          (kept_of (event_deeds s.network.plan (seatless s.count) e) due.0);
      count = ticket_after s.count (is_done due.0);
    },
  )

-- what an event answers, and the stage after it: what is due to it in the network, or, where it would be
-- done and a trace that it adds to is full, TraceFull with nothing changed
abbrev pub stage_apply : {A : Type 0} → Kind A → Bool → Stage A → Event → Result Reply EventFault × Stage A
stage_apply kind keeps s e =
    stage_after keeps s e (unless_full (stage_full keeps s e) s.network (network_apply kind s.network e))
