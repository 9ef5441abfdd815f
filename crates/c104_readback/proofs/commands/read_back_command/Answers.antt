use Rattle.{c104_readback.specs.ReadBacks.ReadsBack, c104_session.proofs.TextRuns.text_ends}

pub returns-clause-ends : Rattle.c104_readback.proofs.commands.read_back_command.Goals.returns-clause-ends
returns-clause-ends g c =
    text_ends (ReadsBack c.args.form (g.S.Read.remaining c.args.script.now)) _ _ _ _ c.in-Ok.setup.plan c.in-Ok.setup.image
    c.print_after.result c.in-Ok.ensures.network c.in-Ok.ensures.unwritten c.print_after.ensures.runs
