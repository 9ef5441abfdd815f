-- What is kept of a run for its tables: what is counted of it, what crossed its wires, and how its network stood.
--     recording      what the tokens that a network tells of add to it
--     record_begun net r      before a round begins
--     record_closed net r      at the end of a run
pub use Rattle.c104_rows.specs.declared.recording.RunRecord.{RunRecord}
use Rattle.{c104_node.specs.Tagged.TaggedToken, c104_plan.specs.Plans.Plan, c104_rows.specs.{Closing.closed_all, Counts.counts_arrived}}
use Rattle.c104_rows.specs.{Counts.{counts_begun, counts_crossed, counts_noted, counts_passed, new_counts}, Sights.counts_at_end}
use Rattle.c104_rows.specs.{Sights.{counts_of_net, ended_by}, States.{Seen, nothing_seen, seen_behind}, Tables.Wanted}
use Rattle.c104_rows.specs.Timelines.{new_timeline, timeline_begun, timeline_crossed, timeline_ended, timeline_passed}
use Rattle.c104_run.specs.{Meters.Sees, NetRecords.NetRecord}
use Rattle.std.specs.Prelude.{Bool, if◌then◌else◌, ℕ}

-- before anything happens on the network of a plan
abbrev pub new_record : Plan → Wanted → RunRecord
new_record plan wanted = record { counts = new_counts plan wanted; timeline = new_timeline plan wanted.holds; seen = nothing_seen }

-- a token crosses the wire at a port, or arrives at a terminal
abbrev pub recording : Sees RunRecord TaggedToken
recording = record {
  crossed = λ r p x. record r { counts = counts_crossed r.counts p (ended_by x); timeline = timeline_crossed r.timeline p (ended_by x) };
  arrived = λ r t x. record r { counts = counts_arrived r.counts t (ended_by x) };
}

-- how a network stands is seen behind each round, if that is wanted
abbrev pub seen_each : Bool → NetRecord → ℕ → Seen → Seen
seen_each wanted net round seen = if wanted then seen_behind net round seen else seen

-- before a round begins on a network: what is there is seen
abbrev pub record_begun : NetRecord → RunRecord → RunRecord
record_begun net r = record {
  counts = counts_begun (counts_of_net net.network r.counts);
  timeline = timeline_begun r.timeline;
  seen = seen_each r.counts.wanted.each net r.counts.current.round r.seen;
}

-- a round ended, or an event outside of rounds, and something was done or not
abbrev pub record_ended : RunRecord → Bool → RunRecord
record_ended r done = record r { counts = counts_noted r.counts done; timeline = timeline_ended r.timeline done }

-- as many rounds passed in which nothing was done
abbrev pub record_passed : RunRecord → ℕ → RunRecord
record_passed r times = record r { counts = counts_passed r.counts times; timeline = timeline_passed r.timeline times }

-- the end of a run, at which its network is this
abbrev pub record_closed : NetRecord → RunRecord → RunRecord
record_closed net r = record {
  counts = counts_at_end net r.counts;
  timeline = closed_all net r.timeline;
  seen = seen_each r.counts.wanted.states net r.counts.current.round r.seen;
}
