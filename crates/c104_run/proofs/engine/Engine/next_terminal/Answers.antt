use Rattle.c104_run.{proofs.{LiveRounds.{idle_arrival, idle_terminal}, PortWalks.next_found}, specs.Engines.engine_network}
use Rattle.std.proofs.Common.{arith, refl, sym, ◌+◌}
use Rattle.c104_run.proofs.engine.Engine.next_terminal.Goals as goal

pub returns-in-Some-clause-ports : goal.returns-in-Some-clause-ports
returns-in-Some-clause-ports g c = λ part. next_found g.T.TokenKind.kind (engine_network g.P.Place.shown c.args.self.now) _ _ _ _ _ refl (omega (arith, c.in-Some.ensures.found.0), omega (arith, c.in-Some.ensures.found.0, c.in-Some.ensures.found.1, c.switch_count-first.ensures.count, c.place_count-end.ensures.count)) (λ t inside above below. idle_terminal g.T.TokenKind.kind (engine_network g.P.Place.shown c.args.self.now) t inside (rw (sym c.switch_count-first.ensures.count) (c.in-Some.ensures.passed (c.switch_count-first.result + t) (omega (arith, above)) (omega (arith, below, inside, c.switch_count-first.ensures.count, c.place_count-end.ensures.count)))) part)

pub returns-in-Some-clause-arrivals : goal.returns-in-Some-clause-arrivals
returns-in-Some-clause-arrivals g c = next_found g.T.TokenKind.kind (engine_network g.P.Place.shown c.args.self.now) _ _ _ _ _ refl (omega (arith, c.in-Some.ensures.found.0), omega (arith, c.in-Some.ensures.found.0, c.in-Some.ensures.found.1, c.switch_count-first.ensures.count, c.place_count-end.ensures.count)) (λ t inside above below. idle_arrival g.T.TokenKind.kind (engine_network g.P.Place.shown c.args.self.now) t inside (rw (sym c.switch_count-first.ensures.count) (c.in-Some.ensures.passed (c.switch_count-first.result + t) (omega (arith, above)) (omega (arith, below, inside, c.switch_count-first.ensures.count, c.place_count-end.ensures.count)))))

pub returns-in-None-clause-ports : goal.returns-in-None-clause-ports
returns-in-None-clause-ports g c = λ part. next_found g.T.TokenKind.kind (engine_network g.P.Place.shown c.args.self.now) _ _ _ _ _ refl tt (λ t inside above below. idle_terminal g.T.TokenKind.kind (engine_network g.P.Place.shown c.args.self.now) t inside (rw (sym c.switch_count-first.ensures.count) (c.in-None.ensures.passed (c.switch_count-first.result + t) (omega (arith, above)) (omega (arith, below, inside, c.switch_count-first.ensures.count, c.place_count-end.ensures.count)))) part)

pub returns-in-None-clause-arrivals : goal.returns-in-None-clause-arrivals
returns-in-None-clause-arrivals g c = next_found g.T.TokenKind.kind (engine_network g.P.Place.shown c.args.self.now) _ _ _ _ _ refl tt (λ t inside above below. idle_arrival g.T.TokenKind.kind (engine_network g.P.Place.shown c.args.self.now) t inside (rw (sym c.switch_count-first.ensures.count) (c.in-None.ensures.passed (c.switch_count-first.result + t) (omega (arith, above)) (omega (arith, below, inside, c.switch_count-first.ensures.count, c.place_count-end.ensures.count)))))
