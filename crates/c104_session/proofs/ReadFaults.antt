-- Whose reader failed.
use Rattle.{c104_plan.specs.TextCut.most_bytes, c104_stream.specs.Reading.TakesUpTo, std.proofs.Common.{List, Option, arith, length, ℕ}}
use Rattle.std.{proofs.Common.◌≤◌, specs.Io.KnownBytes.IsAtEnd}

-- a text that is no longer than it may be was read to its end
pub read_to_end : (old new : Option (List ℕ)) (taken : List ℕ) → TakesUpTo most_bytes old new taken → length taken ≤ most_bytes → IsAtEnd new
read_to_end old new taken takes room = search arith
