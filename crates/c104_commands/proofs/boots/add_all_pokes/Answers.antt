use Rattle.{c104_commands.{proofs.BootLemmas.{left_next, left_none}, specs.Boots.switch_command}, c104_tools.specs.Loads.pokes}
use Rattle.std.proofs.Common.{ap, arith, map, ◌++◌, ◌∙◌}
use Rattle.c104_commands.proofs.boots.add_all_pokes.Goals as goal

pub loop-switch-preserved : goal.loop-switch-preserved
loop-switch-preserved c =
    left_next c.args.switches.now c.loop-switch.switch c.index-switches-switch.result c.loop-switch.commands.items _ _
    c.loop-switch-test.true c.index-switches-switch.is c.loop-switch.invariant
    (c.in_ok-add_pokes.ensures
    ∙ ap (λ values. c.loop-switch.commands.items ++ map switch_command (pokes c.loop-switch.switch values)) c.values.ensures.values)

pub returns : goal.returns
returns c = left_none c.args.switches.now c.loop-switch.switch _ _ (omega (arith, c.loop-switch-test.false)) c.loop-switch.invariant
