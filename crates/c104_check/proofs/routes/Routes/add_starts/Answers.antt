use Rattle.{c104_check.{proofs.StartLemmas.covers_all, specs.Trails.routes_in}, std.proofs.Common.{ap, arith, length}}

pub returns-clause-covers : Rattle.c104_check.proofs.routes.Routes.add_starts.Goals.returns-clause-covers
returns-clause-covers c = let same = ap length c.ranges-terminal-end.ensures.ranges in covers_all (routes_in c.args.self.now) c.loop-terminal.starts.items c.loop-terminal.terminal (omega (arith, c.loop-terminal-test.false, same)) c.loop-terminal.invariant.covers
