use Rattle.c104_tools.proofs.NetRuns.{poke_ends}

pub returns : Rattle.c104_session.proofs.tools.poke_net.Goals.returns
returns c = poke_ends _ _ c.args.switch c.args.addr c.args.value _ c.write_register.ensures.unknown c.write_register.ensures.not_asked c.write_register.ensures.due
