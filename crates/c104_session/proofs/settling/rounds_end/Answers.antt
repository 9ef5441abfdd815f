use Rattle.{c104_link.proofs.MadeSteps.All-place, c104_net.proofs.{SentBytes.{AreBytesSent, run_bytes}, TracedOrigins.fit_there}}
use Rattle.{c104_node.specs.{Starts.start_node, TracedRecords.{IsFit, TracedRecord}, Traces.seatless}, c104_plan.specs.Plans.IsPlan}
use Rattle.c104_run.specs.{NetRecords.{IsNetRecord, NetRecord}, RecordedNets.places_record, RecordedPlaces.counted_reading}
use Rattle.{c104_session.{proofs.SettlingEnds.rounds_end, specs.SettlingEnds.RoundsEnd}, std.proofs.Common.{All, List, Some, map}}
use Rattle.std.proofs.Common.{slice_get, subst, ℕ, ◌≡◌}

pub returns : Rattle.c104_session.proofs.settling.rounds_end.Goals.returns
returns c =
    let is_plan : IsPlan c.args.net.now.network.plan = subst IsPlan c.plan-plan.ensures c.switches-switches.ensures.kept in
    let nodes : List TracedRecord = c.places.result.now in
    let net : NetRecord = places_record counted_reading c.args.net.now.network.plan nodes c.args.net.now.count in
    let kept : IsNetRecord net = c.places.ensures.kept.kept in
    let fit : (k : ℕ) (n : TracedRecord) → slice_get nodes k ≡ Some n → All IsFit n.trace =
    λ k n here. All-place (λ (m : TracedRecord). All IsFit m.trace) nodes k n here c.read_counts.ensures in
    let sent : AreBytesSent kept.told.0 =
    run_bytes net.network.plan seatless (map start_node net.starts) net.network.nodes net.traces net.count kept.told.0
    kept.started.in_place kept.told.1 (fit_there nodes fit) in
    subst RoundsEnd c.places.ensures.shown (rounds_end net is_plan kept sent)
