-- A new network into which an image was loaded begins a run as the network that is placed with the image.
use Rattle.{c104_event.specs.declared.faults.EventFault.EventFault, c104_plan.specs.{PlanImage.{Fits, Image}, Plans.{IsPlan, Plan}}}
use Rattle.c104_run.specs.{NetRecords.{IsNetRecord, NetRecord, fresh_record, record_begun_if}, Network.{new_network, placed_network}}
use Rattle.{c104_run.specs.QuietNets.IsQuiet, c104_tools.proofs.{FreshLoads.fresh_load, NetLoads.begun_so}}
use Rattle.c104_tools.specs.{Loaded.{IsUnansweredFault, each_with, loaded}, NetCommands.{net_switch_count, net_switches, switches_of}}
use Rattle.{c104_tools.specs.{NetOutcomes.{EndsSo, net_load}, declared.faults.LoadFault.LoadFault}, std.proofs.Common.{Bool, Err, IsTrue}}
use Rattle.std.proofs.Common.{MatchResult, Ok, Result, Some, length, subst, sym, ◌↔◌, ◌≡◌}

abbrev Came : Type 0
Came = Result (Unit {0}) LoadFault

module _ (plan : Plan) (image : Image) (is_plan : IsPlan plan) (fits : Fits image plan) where
  -- what comes of a load: a run begins; or there was no memory
  abbrev Begins : Came → NetRecord → Type 0
  Begins result after = MatchResult result (λ u. (began : Bool) → IsTrue began ↔ IsQuiet after.network → record_begun_if began after ≡ fresh_record (placed_network plan image)) (λ f. f ≡ LoadFault.Port EventFault.NoMemory)

  abbrev Shows : NetRecord → Came → NetRecord → Type 0
  Shows old result after = MatchResult result (λ u. net_switches after ≡ Some (each_with loaded (switches_of old.network.nodes) image.settings)) IsUnansweredFault

  begins : (result : Came) (after : NetRecord) → IsNetRecord (fresh_record (new_network plan)) → EndsSo (net_load (fresh_record (new_network plan)) image) result after → Shows (fresh_record (new_network plan)) result after → Begins result after
  begins (Ok u) after kept ends shown = λ began quiet. (begun_so plan image fits kept.steady.in_place u after (fresh_load plan image is_plan fits kept.steady.in_place (Ok u) after ends tt) shown began quiet).1
  begins (Err f) after kept ends shown = fresh_load plan image is_plan fits kept.steady.in_place (Err f) after ends shown

  pub started : (old : NetRecord) → old ≡ fresh_record (new_network plan) → IsNetRecord old → (result : Came) (after : NetRecord) → EndsSo (net_load old image) result after → (net_switch_count old ≡ length image.settings → Shows old result after) → Begins result after
  started old new kept result after ends shown =
      (subst (λ (r : NetRecord). IsNetRecord r → EndsSo (net_load r image) result after → (net_switch_count r ≡ length image.settings → Shows r result after) → Begins result after) (sym new)
      (λ k e s. begins result after k e (s (sym fits.settings)))) kept ends shown
