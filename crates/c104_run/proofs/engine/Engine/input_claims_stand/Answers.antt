use Rattle.{c104_event.specs.declared.events.Event.Event, c104_run.proofs.{PartRuns.single, StillParts.{left_next, left_none, left_stops}}}
use Rattle.{c104_run.{proofs.StillParts.of_outputs, specs.{Engines.engine_network, Standstill.has_reason}}, std.proofs.Common.{arith, sym}}
use Rattle.std.proofs.Common.{◌∙◌}
use Rattle.c104_run.proofs.engine.Engine.input_claims_stand.Goals as goal

pub loop-output-preserved : goal.loop-output-preserved
loop-output-preserved g c = left_next (has_reason (engine_network g.P.Place.shown c.args.self.now)) (single (Event.Claim c.args.switch c.args.input)) 32 c.loop-output.output (omega (arith, c.loop-output-test.true)) c.loop-output.invariant (sym c.claim_stands.ensures ∙ c.if-not-claim_stands.false)

pub returns-then-not-claim_stands : goal.returns-then-not-claim_stands
returns-then-not-claim_stands g c = left_stops (has_reason (engine_network g.P.Place.shown c.args.self.now)) (single (Event.Claim c.args.switch c.args.input)) 32 c.loop-output.output (omega (arith, c.loop-output-test.true)) c.loop-output.invariant (sym c.claim_stands.ensures ∙ c.if-not-claim_stands.true) ∙ of_outputs (has_reason (engine_network g.P.Place.shown c.args.self.now)) c.args.switch c.args.input

pub returns : goal.returns
returns g c = left_none (has_reason (engine_network g.P.Place.shown c.args.self.now)) (single (Event.Claim c.args.switch c.args.input)) 32 c.loop-output.output (omega arith) c.loop-output.invariant ∙ of_outputs (has_reason (engine_network g.P.Place.shown c.args.self.now)) c.args.switch c.args.input
