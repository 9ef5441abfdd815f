use Rattle.c104_commands.proofs.BootLemmas.{pokes_next}

pub loop-value-preserved : Rattle.c104_commands.proofs.boots.add_pokes.Goals.loop-value-preserved
loop-value-preserved c =
    pokes_next c.args.switch c.args.values.now c.loop-value.value-index (0, 0) _ _ _ _ c.loop-value-test.true c.loop-value.invariant
    c.new.ensures c.in_ok-push.ensures.items
