use Rattle.{c104_check.{proofs.OwnStarts.{have_none, own_random}, specs.Trails.routes_in}, std.proofs.Common.arith}
use Rattle.c104_check.proofs.routes.Routes.add_found.Goals as goal

pub loop-header-init : goal.loop-header-init
loop-header-init c = record { starts = c.requires.starts; portals = have_none (routes_in c.args.self.now) c.args.entry c.args.starts.now.items }

pub returns : goal.returns
returns c = own_random (routes_in c.args.self.now) c.loop-header.starts.items c.args.terminal c.loop-header.header c.args.entry c.requires.wired c.requires.randomized (omega (arith, c.loop-header-test.false, c.loop-header.auto.header-end, c.header_count-header-end.ensures)) c.loop-header.invariant.portals c.loop-header.invariant.starts
