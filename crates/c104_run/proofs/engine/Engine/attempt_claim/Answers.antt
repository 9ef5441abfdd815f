use Rattle.{c104_event.specs.declared.events.Event.Event, c104_run.proofs.{ActAttempts.claim_possible, LiveRounds.claim_begins}}
use Rattle.std.proofs.Common.{refl}

pub returns-clause-does : Rattle.c104_run.proofs.engine.Engine.attempt_claim.Goals.returns-clause-does
returns-clause-does g c = c.attempt_alone.ensures.does (Event.Claim c.args.switch c.args.input c.args.output) (claim_possible c.args.self.now.plan c.args.switch c.args.input c.args.output c.requires.switch c.requires.input c.requires.output) refl (λ reply. refl)

pub returns-clause-told : Rattle.c104_run.proofs.engine.Engine.attempt_claim.Goals.returns-clause-told
returns-clause-told g c = c.attempt_alone.ensures.told (Event.Claim c.args.switch c.args.input c.args.output) (claim_possible c.args.self.now.plan c.args.switch c.args.input c.args.output c.requires.switch c.requires.input c.requires.output) refl

pub attempt_alone-requires-clause-begins : Rattle.c104_run.proofs.engine.Engine.attempt_claim.Goals.attempt_alone-requires-clause-begins
attempt_alone-requires-clause-begins g c = claim_begins g.T.TokenKind.kind c.args.self.now.plan c.args.switch c.args.input c.args.output c.requires.input
