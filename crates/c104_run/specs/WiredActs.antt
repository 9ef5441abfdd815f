-- The acts of a node that go over a link: tokens and credits come in and go out there, and such a link has a wire.
use Rattle.c104_node.specs.{ActLinks.act_link, Records.{IsRecorded, NodeRecord}, declared.{acts.Entry.Entry, ends.End.End}}
use Rattle.{c104_plan.specs.{Plans.Plan, Wiring.peer, declared.ports.Port.Port}, c104_run.specs.{Ends.end_of, NetRecords.NetRecord}}
use Rattle.std.specs.Prelude.{All, List, Some, slice_get, ℕ, ◌≡◌}

-- there is a port at this end of a wire, and another at the wire's other end
abbrev pub IsWiredEnd : Plan → End → Type 0
IsWiredEnd plan end = (p : Port) × (q : Port) × (end_of plan p ≡ end) × (peer plan p ≡ Some q)

-- where an act of the node at this place goes over a link, the link has a wire
abbrev pub IsWiredAct : Plan → ℕ → Entry → Type 0
IsWiredAct plan k e = (l : ℕ) → act_link e.act ≡ Some l → IsWiredEnd plan (record { node = k; link = l })

-- the links that the acts of a trace go over have wires
abbrev pub AreWiredLinks : Plan → ℕ → List Entry → Type 0
AreWiredLinks plan k trace = All (IsWiredAct plan k) trace

-- what a network with its record keeps of a node at this place: its trace is a run from where it started to
-- its state, within the limits of a packet and of a trace, and over wired links alone
pub record IsRecordedNode (r : NetRecord) (k : ℕ) (n : NodeRecord) : Type 0 where
  pub state : slice_get r.network.nodes k ≡ Some n.state
  pub start : slice_get r.starts k ≡ Some n.start
  pub trace : slice_get r.traces k ≡ Some n.trace
  pub recorded : IsRecorded n
  pub wired : AreWiredLinks r.network.plan k n.trace

-- the trace of the node at a place is such a run
abbrev pub IsRecordedAt : NetRecord → ℕ → Type 0
IsRecordedAt r k = (trace : List Entry) → slice_get r.traces k ≡ Some trace → (n : NodeRecord) × IsRecordedNode r k n
