-- What the nodes and the seats of a shared network come to when its log is closed: one run of the network.
use Rattle.c104_lean.proofs.{ClosedNodes.nodes_did, ClosedSeats.{log_own, log_seated, log_seats}, LogParts.{all_parts, have_places}}
use Rattle.c104_lean.{proofs.{LogParts.part_holds, OwnParts.{RunTheirs, parts}, SharedRuns.{RunsBy, runs}}, specs.Closing.HoldTracks}
use Rattle.c104_lean.specs.{Closing.TellTracks, OwnRuns.{IsDoneHere, OwnRun}, Runs.IsSharedRun, Seats.AreAllSeats, Shared.Before}
use Rattle.{c104_lean.specs.Shared.{SharedView, WasShared, record_of}, c104_net.proofs.Members.element_at, c104_node.specs.Places.bases}
use Rattle.{c104_node.specs.TracedRecords.{TracedRecord, counted_shown}, c104_plan.specs.Plans.Plan, c104_run.specs.KnownWires.KnowWires}
use Rattle.c104_run.specs.{NetParts.node_count, NetRecords.NetRecord, RecordedNets.{IsRecordedNet, places_record}}
use Rattle.{c104_run.specs.RecordedPlaces.counted_reading, c104_tickets.specs.{Tickets.{AreNumbered, Each}, declared.views.Done.Done}}
use Rattle.{c104_tickets.specs.declared.views.{Name.Name, Terms.Terms, Track.Track}, c104_turns.specs.Calls.SeatView}
use Rattle.std.proofs.Common.{List, Some, ap, arith, length, map, subst, sym, ℕ, ◌+◌, ◌∙◌, ◌≡◌}

-- nodes that are those of the network again, and what was done there is one run
pub record IsClosedRun (before : Before) (nodes : List TracedRecord) (next seat_count : ℕ) (seats : List SeatView) : Type 0 where
  pub kept : IsRecordedNet counted_reading before.plan nodes next
  pub wired : KnowWires before.plan (bases (map counted_shown nodes))
  pub shared : IsSharedRun (record_of before) (places_record counted_reading before.plan nodes next) seat_count seats

module _ (before : Before) (was : WasShared before) (terms : Terms) (next : ℕ) (seats : List SeatView) (nodes : List TracedRecord)
    (old others : List Track) (told : TellTracks terms next seats others) (held : HoldTracks before nodes old others)
    (all : AreAllSeats terms seats) (first : terms.first ≡ before.count) (places : terms.places ≡ node_count before.plan)
    (full : length nodes ≡ node_count before.plan) where
  abbrev Log : List Done
  Log = told.closed.log

  -- each node did its part
  theirs : RunTheirs before.plan before.places nodes (parts Log)
  theirs k n m stood at =
      let own = nodes_did before terms next seats nodes old others told held (full ∙ sym places) k m at in
      let both : Some own.from ≡ Some n = sym own.stood ∙ stood in
      let same : own.from ≡ n = cc in
      subst (λ x. OwnRun before.plan k x (parts Log k) m) same own.run

  -- and all that was done is in the part of a node
  here : Each (IsDoneHere before.plan) Log
  here =
      all_parts (IsDoneHere before.plan) Name.Place terms.places Log
      (have_places terms Log (log_own terms next seats others told all) told.closed.inside)
      (λ k below. (let n = element_at nodes k (omega (arith, below, full, places)) in
      part_holds (IsDoneHere before.plan) (Name.Place k) Log
      (nodes_did before terms next seats nodes old others told held (full ∙ sym places) k n.0 n.1).here))

  numbered : AreNumbered before.count Log
  numbered = subst (λ n. AreNumbered n Log) first told.closed.numbered

  last : next ≡ before.count + length Log
  last = told.closed.last ∙ ap (λ n. n + length Log) first

  by_log : RunsBy before.plan Log before.places nodes before.count next
  by_log =
      runs before.plan was.planned Log before.places nodes before.count next was.nodes full numbered last here theirs was.wired was.kept

  pub closed_run : IsClosedRun before nodes next terms.seats seats
  closed_run = record {
    kept = by_log.kept;
    wired = by_log.wired;
    shared = record {
      log = Log;
      numbered = numbered;
      count = last;
      seated = log_seated terms next seats others told;
      applied = by_log.applied;
      calls = log_seats terms next seats others told;
    };
  }

-- what is known of them where the plan has another name
pub closed_parts : (before : Before) (wires : Plan) (nodes : List TracedRecord) (next seat_count : ℕ) (seats : List SeatView)
    → IsClosedRun before nodes next seat_count seats → wires ≡ before.plan
    → IsRecordedNet counted_reading wires nodes next × KnowWires wires (bases (map counted_shown nodes))
closed_parts before wires nodes next seat_count seats closed same = (
  subst (λ p. IsRecordedNet counted_reading p nodes next) (sym same) closed.kept,
  subst (λ p. KnowWires p (bases (map counted_shown nodes))) (sym same) closed.wired,
)

-- and of the network that they are
pub closed_net : (before : Before) (view : SharedView) (wires : Plan) (nodes : List TracedRecord) (next seat_count : ℕ)
    (seats : List SeatView) (result : NetRecord) → IsClosedRun before nodes next seat_count seats → wires ≡ before.plan
    → before ≡ view.before → seat_count ≡ view.terms.seats → result ≡ places_record counted_reading wires nodes next
    → IsSharedRun (record_of view.before) result view.terms.seats seats
closed_net before view wires nodes next seat_count seats result closed same was counted is =
    let shown : result ≡ places_record counted_reading before.plan nodes next =
    is ∙ ap (λ p. places_record counted_reading p nodes next) same in
    subst (λ b. IsSharedRun (record_of b) result view.terms.seats seats) was
    (subst (λ n. IsSharedRun (record_of before) result n seats) counted
    (subst (λ r. IsSharedRun (record_of before) r seat_count seats) (sym shown) closed.shared))
