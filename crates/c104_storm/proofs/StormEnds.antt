-- The ends of a storm: of its answers, and of what follows them.
use Rattle.{c104_lean.specs.Runs.IsSharedRun, c104_plan.specs.{PlanImage.Image, Plans.Plan}, c104_run.specs.NetRecords.IsNetRecord}
use Rattle.{c104_run.specs.NetRecords.NetRecord, c104_storm.specs.{Endings.WritesEnd, Sends.{new_sending, send_outcome}}}
use Rattle.c104_storm.specs.{Storms.{MayEndAfter, MayWrite, StormsOn, StormsPlan}, Workers.{AreDoneBy, Team}}
use Rattle.{c104_storm.specs.declared.sends.Sending.Sending, c104_stream.proofs.Growing.{grew_none, grew_prefix, grew_then}}
use Rattle.c104_stream.{proofs.{Prefixes.prefix_next, ScriptEnds.nothing_answered}, specs.{ScriptLines.is_long, Scripts.AnswersScript}}
use Rattle.{c104_stream.specs.{Scripts.script_outcome, Writing.Grew, declared.halt.Halt.Halt}, c104_turns.specs.Calls.SeatView}
use Rattle.std.proofs.Common.{Bool, Err, List, None, Ok, Option, Result, Some, [], inl, inr, refl, subst, sym, ℕ, ◌++◌, ◌≡◌}
use Rattle.std.{proofs.KnownBytes.Appends-trans, specs.Io.KnownBytes.{Appends, prepend_known}}

-- nothing was answered, and nothing was read
pub nothing_sent : (start : Sending) (known held : Option (List ℕ)) → AnswersScript send_outcome start known known held held start (Err Halt.NoMemory)
nothing_sent start None held = grew_none held
nothing_sent start (Some rest) held = nothing_answered send_outcome start (Some rest) held []

-- nothing was read ahead of the answers
pub from_reader : (start after : Sending) (known left held holds : Option (List ℕ)) (before : List ℕ) (result : Result Bool Halt) → before ≡ [] → AnswersScript send_outcome start (prepend_known before known) left held holds after result → AnswersScript send_outcome start known left held holds after result
from_reader start after None left held holds before result none answered = answered
from_reader start after (Some rest) left held holds before result none answered =
    subst (λ xs. AnswersScript send_outcome start (Some (xs ++ rest)) left held holds after result) none answered

-- what is written at the end, by the run that the workers did
pub storms_on : (team : Team) (net left : NetRecord) (seats : List SeatView) (long faulty : Bool) (held holds : Option (List ℕ))
    (result : Result Bool Halt) → IsNetRecord left → IsSharedRun net left team.count seats → AreDoneBy team net.network.plan seats
    → WritesEnd team left long faulty held holds result → StormsOn team net long faulty held holds result
storms_on team net left seats long faulty held holds (Ok refused) kept one done ends =
    (ends.0, record { left = left; kept = kept; seats = seats; one = one; done = done; ends = ends.1 }, ends.2)
storms_on team net left seats long faulty held holds (Err Halt.CannotRead) kept one done ends = absurd ends
storms_on team net left seats long faulty held holds (Err Halt.CannotWrite) kept one done ends =
    (ends.0, ends.1, record { left = left; kept = kept; seats = seats; one = one; done = done; ends = ends.2 }, ends.3)
storms_on team net left seats long faulty held holds (Err Halt.NoMemory) kept one done ends = ends

-- the sending by its plan
pub from_plan : (plan : Plan) (image : Image) (all left held holds : Option (List ℕ)) (start after : Sending) (result : Result Bool Halt) → start ≡ new_sending plan image → AnswersScript send_outcome start all left held holds after result → AnswersScript send_outcome (new_sending plan image) all left held holds after result
from_plan plan image all left held holds start after result is answered = subst (λ s. AnswersScript send_outcome s all left held holds after result) is answered

module _ (team : Team) (plan : Plan) (image : Image) where
  -- the script came to no end
  pub storm_stops : (all left held holds : Option (List ℕ)) (after : Sending) (kind : Halt) → AnswersScript send_outcome (new_sending plan image) all left held holds after (Err kind) → StormsPlan team plan image all left held holds (Err kind)
  storm_stops None left held holds after kind stopped = stopped
  storm_stops (Some script) left held holds after Halt.CannotRead stopped = stopped
  storm_stops (Some script) left held holds after Halt.CannotWrite stopped = inl stopped
  storm_stops (Some script) left held holds after Halt.NoMemory stopped = inl stopped

  -- no memory for the network: nothing was read and nothing is written
  pub nothing_stormed : (known held : Option (List ℕ)) → StormsPlan team plan image known known held held (Err Halt.NoMemory)
  nothing_stormed known held = storm_stops known known held held (new_sending plan image) Halt.NoMemory (nothing_sent (new_sending plan image) known held)

  -- an end after the answers to this script
  whole : (script end : List ℕ) (after : Sending) (long refused : Bool) → long ≡ is_long script → after ≡ (script_outcome send_outcome (new_sending plan image) script).1 → MayEndAfter team after long end refused
      → MayWrite team plan image script ((script_outcome send_outcome (new_sending plan image) script).0 ++ end) refused
  whole script end after long refused is_so is_after may = record {
    end = end;
    storms = subst (λ l. MayEndAfter team (script_outcome send_outcome (new_sending plan image) script).1 l end refused) is_so (subst (λ (s : Sending). MayEndAfter team s long end refused) is_after may);
    is = refl;
  }

  -- the script was answered, and then the storm ended
  pub storm_ends : (all left held now holds : Option (List ℕ)) (after : Sending) (long : Bool) (result : Result Bool Halt) → AnswersScript send_outcome (new_sending plan image) all left held now after (Ok long) → StormsOn team after.net long after.is_faulty now holds result
      → StormsPlan team plan image all left held holds result
  storm_ends None left held now holds after long (Ok refused) answered ends =
      (after, long, answered.written, ends.0, ends.1, Appends-trans held now holds answered.written ends.0 answered.grew ends.2)
  storm_ends None left held now holds after long (Err Halt.CannotRead) answered ends = absurd ends
  storm_ends None left held now holds after long (Err Halt.CannotWrite) answered ends = grew_then held now holds answered (grew_prefix now holds ends.0 ends.3)
  storm_ends None left held now holds after long (Err Halt.NoMemory) answered ends = subst (λ h. Grew held h) (sym ends) answered
  storm_ends (Some script) left held now holds after long (Ok refused) answered ends =
      let shown : List ℕ = (script_outcome send_outcome (new_sending plan image) script).0 in
      (shown ++ ends.0, whole script ends.0 after long refused answered.0 answered.1 ends.1, Appends-trans held now holds shown ends.0 answered.2 ends.2)
  storm_ends (Some script) left held now holds after long (Err Halt.CannotRead) answered ends = absurd ends
  storm_ends (Some script) left held now holds after long (Err Halt.CannotWrite) answered ends =
      let shown : List ℕ = (script_outcome send_outcome (new_sending plan image) script).0 in
      inr (shown ++ ends.0, ends.1, whole script ends.0 after long ends.1 answered.0 answered.1 ends.2, prefix_next held now holds shown ends.0 answered.2 ends.3)
  storm_ends (Some script) left held now holds after long (Err Halt.NoMemory) answered ends =
      inr (subst (λ h. Appends held h (script_outcome send_outcome (new_sending plan image) script).0) (sym ends) answered.2)
