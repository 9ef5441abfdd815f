use Rattle.c104_net.proofs.TracedTokens.{output_there}

pub returns : Rattle.c104_net.proofs.traced_origins.TracedNetWaitingTokens.output_token.Goals.returns
returns c = output_there c.engine-engine.result.now c.plan-plan.ensures.kept c.engine-engine.ensures.kept c.args.self.now c.engine-engine.ensures.shown c.args.switch c.args.link c.args.index c.output_token.result c.output_token.ensures
