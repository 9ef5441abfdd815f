use Rattle.{c104_commands.{proofs.ReadTexts.runs_read, specs.Checks.PrintsCheck}, c104_describe.specs.PlanText.read_description}
use Rattle.{c104_setup.specs.Endings.CommandEnds, std.proofs.Common.subst}

pub returns : Rattle.c104_commands.proofs.checks.check_command.Goals.returns
returns g c =
    runs_read PrintsCheck _ _ c.in-Ok.text.items _ _ _ c.in-Ok.ensures.taken (subst (λ text. CommandEnds PrintsCheck (read_description text) (g.W.Write.contents c.args.writer.now) (g.W.Write.contents c.check_text.new.writer) c.check_text.result) c.as_slice.ensures.value c.check_text.ensures)
