use Rattle.c104_tools.proofs.NetRuns.{verify_ends}

pub returns : Rattle.c104_session.proofs.tools.verify_net.Goals.returns
returns c = verify_ends _ _ c.args.image.now _ c.verify.ensures.unfitting c.verify.ensures.not_asked c.verify.ensures.due
