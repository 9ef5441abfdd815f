use Rattle.c104_crossbar.{proofs.{BitMarks.no_marks, MarkLemmas.is_free-replicate}, specs.Marks.{bool_number, is_free}}
use Rattle.std.proofs.Common.{ap, zero-add, ◌∙◌}
use Rattle.c104_crossbar.proofs.crossbar.Crossbar.new.Goals as goal

pub returns-clause-marks : goal.returns-clause-marks
returns-clause-marks c = no_marks

pub returns-clause-partition : goal.returns-clause-partition
returns-clause-partition c = λ o. zero-add _ ∙ ap (λ marks. bool_number (is_free marks o)) no_marks ∙ ap bool_number (is_free-replicate 32 o)
