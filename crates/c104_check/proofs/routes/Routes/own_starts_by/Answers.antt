use Rattle.c104_check.{proofs.OwnStarts.{own_all, own_first}, specs.{Refusals.Start, Starts.AreOwnStarts, Trails.routes_in}}
use Rattle.std.proofs.Common.{List, ap, arith, length, subst, sym}
use Rattle.c104_check.proofs.routes.Routes.own_starts_by.Goals as goal

pub loop-terminal-init : goal.loop-terminal-init
loop-terminal-init c = subst (λ (xs : List Start). AreOwnStarts (routes_in c.args.self.now) xs 0) (sym c.new-starts.ensures.items) (own_first (routes_in c.args.self.now))

pub returns : goal.returns
returns c =
    let same = ap length c.ranges-terminal-end.ensures.ranges in
    own_all (routes_in c.args.self.now) c.loop-terminal.starts.items c.loop-terminal.terminal (omega (arith, c.loop-terminal-test.false, c.loop-terminal.auto.terminal-end, same)) c.loop-terminal.invariant
