use Rattle.{c104_commands.proofs.WithoutKept.switch_free, std.proofs.Common.◌∙◌}

pub push-requires-clause-free : Rattle.c104_commands.proofs.plan_copies.copy_switches.Goals.push-requires-clause-free
push-requires-clause-free c =
    switch_free c.args.plan.now c.loop-name.switches c.switches-name-items.result.now c.loop-name.name-index c.as_bytes.result.now _ c.switches-name-items.ensures.kept c.switches-name-items.ensures.switches c.loop-name.invariant c.loop-name-test.true (c.as_bytes.ensures.bytes ∙ c.name-item.is)
