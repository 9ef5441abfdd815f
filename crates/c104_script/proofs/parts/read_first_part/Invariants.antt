-- what is left gives the parts of the whole text, and what was taken are the front and the line, in which the
-- line `script` has not ended
use Rattle.{c104_plan.specs.TextCut.most_bytes, c104_script.proofs.FirstPart.{GivesParts, HasRead}, std.proofs.Common.{length, ◌+◌, ◌≡◌}}
use Rattle.std.specs.Io.KnownBytes.{prepend_known}
use Rattle.c104_script.proofs.parts.read_first_part.Given as goal

abbrev pub invariant-loop-left : goal.invariant-loop-left
invariant-loop-left g l = (l.left + (length l.part.front.items + length l.part.line.items) ≡ most_bytes) × GivesParts l.left (prepend_known l.initial.ahead (g.R.Read.remaining l.initial.reader)) (prepend_known l.ahead (g.R.Read.remaining l.reader)) l.part.front.items l.part.line.items × HasRead (prepend_known l.initial.ahead (g.R.Read.remaining l.initial.reader)) (prepend_known l.ahead (g.R.Read.remaining l.reader)) l.part.front.items l.part.line.items

abbrev pub decreases-loop-left : goal.decreases-loop-left
decreases-loop-left g l = l.left
