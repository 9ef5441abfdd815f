use Rattle.c104_check.{proofs.Homeless.{first_homeless, homes_next, homes_none}, specs.{Parts.HomesFirst, Trails.routes_in}}
use Rattle.std.proofs.Common.{ap, arith, length, sym, ◌∙◌}
use Rattle.c104_check.proofs.routes.Routes.refused_random.Goals as goal

pub loop-terminal-preserved : goal.loop-terminal-preserved
loop-terminal-preserved c = homes_next (routes_in c.args.self.now) c.args.header c.loop-terminal.terminal c.loop-terminal.invariant (homes_none (routes_in c.args.self.now) c.args.header c.loop-terminal.terminal c.in_ok-refusal.refusal (sym c.is_some.ensures ∙ c.if-is_some.false) c.in_ok-refusal.ensures)

pub returns-then-is_some : goal.returns-then-is_some
returns-then-is_some c = first_homeless (routes_in c.args.self.now) c.args.header c.loop-terminal.terminal c.in_ok-refusal.refusal (HomesFirst (routes_in c.args.self.now) c.args.header (length (routes_in c.args.self.now).ranges)) (sym c.is_some.ensures ∙ c.if-is_some.true) c.loop-terminal.invariant c.in_ok-refusal.ensures

pub returns : goal.returns
returns c =
    let same = ap length c.ranges-terminal-end.ensures.ranges in
    λ t p below. c.loop-terminal.invariant t p (omega (arith, below, c.loop-terminal-test.false, c.loop-terminal.auto.terminal-end, same))
