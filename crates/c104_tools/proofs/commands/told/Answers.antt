use Rattle.c104_tools.proofs.Replies.{is_meant}

pub returns-clause-meant : Rattle.c104_tools.proofs.commands.told.Goals.returns-clause-meant
returns-clause-meant c = is_meant c.args.switch c.args.command c.args.reply.now c.read_reply.result c.read_reply.ensures.table c.judge.result c.judge.ensures
