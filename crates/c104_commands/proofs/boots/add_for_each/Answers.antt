use Rattle.c104_commands.proofs.BootLemmas.{each_next}

pub loop-switch-preserved : Rattle.c104_commands.proofs.boots.add_for_each.Goals.loop-switch-preserved
loop-switch-preserved c =
    each_next c.args.command c.loop-switch.switch _ _ _ _ c.loop-switch.invariant c.new.ensures c.in_ok-push.ensures.items
