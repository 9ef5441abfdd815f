-- How a command of a description ends is said of bytes that are told, and so of standard output.
use Rattle.{c104.specs.{Described.DescriptionEnds, Taking.TookFront}, c104_plan.specs.{PlanImage.Image, Plans.Plan}}
use Rattle.{c104_setup.specs.{Endings.CommandRuns, declared.status.Status.Status}, c104_stream.specs.Writing.AppendsPrefix}
use Rattle.std.proofs.Common.{Bool, List, Some, ℕ}

-- a front of a text was taken
pub front_taken : (taken takes text : List ℕ) → AppendsPrefix (Some taken) (Some takes) text → TookFront taken takes text
front_taken taken takes text front = record {
  written = front.written;
  unwritten = front.unwritten;
  took = front.grew;
  is_front = front.is_prefix;
  is_short = front.is_short;
}

-- a command of a description ended so
pub described : (prints : Plan → Image → List ℕ → Bool → Type 0) (description taken takes : List ℕ) (status : Status)
    → CommandRuns prints (Some description) (Some taken) (Some takes) status → DescriptionEnds prints description taken takes status
described prints description taken takes Status.Done ends = ends
described prints description taken takes Status.Refused ends = ends
described prints description taken takes (Status.CannotRead n) ends = ends
described prints description taken takes Status.CannotWrite ends =
    (ends.0, ends.1, ends.2, ends.3, ends.4, front_taken taken takes ends.2 ends.5)
described prints description taken takes Status.NoMemory ends = ends
