use Rattle.std.proofs.Common.{length}

abbrev pub decreases-loop-place : Rattle.c104_run.proofs.recorded_place.retire_places.Given.decreases-loop-place
decreases-loop-place g l = length l.list.items
