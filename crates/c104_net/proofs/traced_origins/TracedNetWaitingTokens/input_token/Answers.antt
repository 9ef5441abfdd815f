use Rattle.c104_net.proofs.TracedTokens.{input_there}

pub returns : Rattle.c104_net.proofs.traced_origins.TracedNetWaitingTokens.input_token.Goals.returns
returns c = input_there c.engine-engine.result.now c.plan-plan.ensures.kept c.engine-engine.ensures.kept c.args.self.now c.engine-engine.ensures.shown c.args.port c.args.index c.input_token.result c.input_token.ensures
