use Rattle.c104_check.proofs.{DependencyLemmas.{at_next, extended_more}, ReachLemmas.all_taken, TrailLemmas.All-found, Walked.met_at}
use Rattle.c104_check.specs.{ChannelDependencies.MayComeBy, Dependencies.AreListedAt, Routes.SwitchPort, Trails.routes_in}
use Rattle.std.proofs.Common.{refl, slice_index_or, ◌+◌}
use Rattle.c104_check.proofs.routes.Routes.add_at_all.Goals as goal

pub add_at_input-requires-clause-arrives : goal.add_at_input-requires-clause-arrives
add_at_input-requires-clause-arrives c =
    let port : SwitchPort = record { switch = 0; link = 0 } in
    let xs = c.args.inputs.now in
    All-found (MayComeBy (routes_in c.args.self.now) c.args.header) xs (slice_index_or xs c.loop-at.at-index port) c.requires.arrive (met_at xs xs c.loop-at.at-index port refl c.loop-at-test.true)

pub loop-at-preserved : goal.loop-at-preserved
loop-at-preserved c =
    let port : SwitchPort = record { switch = 0; link = 0 } in
    record {
      kept = extended_more (routes_in c.args.self.now) (c.args.header + 1) (c.args.header + 1) c.args.table.now c.loop-at.table c.add_at_input.new.table c.loop-at.invariant.kept c.add_at_input.ensures.kept;
      listed = at_next (routes_in c.args.self.now) (c.args.header + 1) c.args.header c.args.inputs.now c.loop-at.at-index port c.loop-at.table c.add_at_input.new.table c.loop-at-test.true c.add_at_input.ensures.kept c.loop-at.invariant.listed c.add_at_input.ensures.listed;
    }

pub returns-clause-listed : goal.returns-clause-listed
returns-clause-listed c = all_taken (AreListedAt (routes_in c.args.self.now) c.loop-at.table c.args.header) c.args.inputs.now c.loop-at.at-index c.loop-at-test.false c.loop-at.invariant.listed
