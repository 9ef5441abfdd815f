use Rattle.c104_check.{proofs.{OwnStarts.{discarding_next, have_found, have_kept}, Walked.met_at}, specs.Routes.SwitchPort}
use Rattle.{c104_check.specs.Trails.routes_in, std.proofs.Common.{refl, slice_index_or}}
use Rattle.c104_check.proofs.routes.Routes.add_discarding.Goals as goal

pub add_if_discarding-requires-clause-reached : goal.add_if_discarding-requires-clause-reached
add_if_discarding-requires-clause-reached c =
    let xs = c.args.inputs.now in
    let port : SwitchPort = record { switch = 0; link = 0 } in
    (c.requires.reached (slice_index_or xs c.loop-at.at-index port)).0 (met_at xs xs c.loop-at.at-index port refl c.loop-at-test.true)

pub loop-at-preserved : goal.loop-at-preserved
loop-at-preserved c =
    let routes = routes_in c.args.self.now in
    let port : SwitchPort = record { switch = 0; link = 0 } in
    let kept = c.in_ok-add_if_discarding.ensures.kept in
    record {
      starts = c.in_ok-add_if_discarding.ensures.starts;
      before = have_kept routes c.args.entry c.loop-at.starts.items c.add_if_discarding.new.starts.items c.args.header kept c.loop-at.invariant.before;
      all = discarding_next routes c.args.header c.loop-at.at-index c.args.inputs.now port c.loop-at.starts.items c.add_if_discarding.new.starts.items c.loop-at-test.true kept c.in_ok-add_if_discarding.ensures.have c.loop-at.invariant.all;
    }

pub returns-clause-portals : goal.returns-clause-portals
returns-clause-portals c = have_found (routes_in c.args.self.now) c.args.entry c.loop-at.starts.items c.args.header c.loop-at.at-index c.args.inputs.now c.loop-at-test.false c.requires.reached c.loop-at.invariant.all c.loop-at.invariant.before
