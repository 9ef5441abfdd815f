use Rattle.c104_tools.proofs.NetRuns.{link_ends}

pub returns : Rattle.c104_session.proofs.tools.link_of_net.Goals.returns
returns c = link_ends _ _ c.args.switch c.args.link _ c.read_link.ensures.unknown c.read_link.ensures.not_asked c.read_link.ensures.due
