use Rattle.c104_tools.proofs.NetRuns.{table_ends}

pub returns : Rattle.c104_session.proofs.tools.table_of_net.Goals.returns
returns c = table_ends _ _ c.args.switch c.args.link _ c.table_of.ensures.unknown c.table_of.ensures.not_asked c.table_of.ensures.due
