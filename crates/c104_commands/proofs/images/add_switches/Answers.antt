use Rattle.{c104_commands.{proofs.ImageLines.lines_next, specs.ImageTexts.value_lines}, c104_plan.specs.PortTexts.switch_name}
use Rattle.std.proofs.Common.{slice_get}

pub loop-switch-preserved : Rattle.c104_commands.proofs.images.add_switches.Goals.loop-switch-preserved
loop-switch-preserved c = lines_next (λ s. value_lines (switch_name c.args.plan.now s) (slice_get c.args.image.now.settings s)) c.loop-switch.switch _ _ _ c.loop-switch.invariant c.in_ok-add_values.ensures
