use Rattle.c104_session.proofs.QuietNets.{told_quiet}

pub returns : Rattle.c104_session.proofs.settling.is_quiet.Goals.returns
returns c = told_quiet c.args.net.now.network c.quiet.result c.quiet.ensures
