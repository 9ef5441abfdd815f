use Rattle.c104_session.specs.Shown.{new_session}

pub returns-clause-printed : Rattle.c104_readback.proofs.commands.text_after.Goals.returns-clause-printed
returns-clause-printed g c =
    c.text_of-printed.ensures.printed c.args.image (new_session c.args.plan.now c.args.image) c.in_ok-left.ensures.ranges c.in_ok-session.ensures
