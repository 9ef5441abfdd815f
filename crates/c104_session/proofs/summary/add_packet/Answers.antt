use Rattle.c104_session.proofs.SummaryTexts.{line_joins}

pub returns : Rattle.c104_session.proofs.summary.add_packet.Goals.returns
returns c plan = line_joins plan _ _ _ c.args.packet.now c.in_ok-push.ensures.items c.in_ok-packet.ensures.cases
