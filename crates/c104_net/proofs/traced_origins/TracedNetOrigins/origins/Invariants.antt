use Rattle.{c104_net.proofs.TracedOrigins.arrived_origins, c104_node.specs.TracedRecords.{IsFit, TracedRecord}}
use Rattle.{c104_node.specs.declared.origins.Origin.Origin, std.proofs.Common.{All, Some, map, slice_get, take, ℕ, ◌<◌, ◌≡◌}}
use Rattle.std.specs.Global.{Vec as Kept}

-- the lists so far are those of the nodes so far, which keep entries within the limits of a packet
abbrev pub invariant-loop-place : Rattle.c104_net.proofs.traced_origins.TracedNetOrigins.origins.Given.invariant-loop-place
invariant-loop-place l = record {
  lists : map (λ (list : Kept Origin). list.items) l.lists.items ≡ arrived_origins (take l.place-index l.places);
  fit : (k : ℕ) (n : TracedRecord) → k < l.place-index → slice_get l.places k ≡ Some n → All IsFit n.trace;
}
