use Rattle.c104_check.{proofs.{PartLemmas.{start_joined, starts_all, starts_none}, RefusalLemmas.no_start}, specs.Trails.routes_in}
use Rattle.std.proofs.{Common.slice_index_or, lemmas.Option.slice_get-get_or}
use Rattle.c104_check.proofs.routes.Routes.add_beginnings.Goals as goal

pub loop-start-init : goal.loop-start-init
loop-start-init c =
    let first = starts_none (routes_in c.args.self.now) c.args.starts.now c.args.inputs.now c.requires.empty in
    record { distinct = first.0; beginnings = first.1 }

pub loop-start-preserved : goal.loop-start-preserved
loop-start-preserved c =
    let xs = c.args.starts.now in
    let k = c.loop-start.start-index in
    let next = start_joined (routes_in c.args.self.now) xs k (slice_index_or xs k no_start) c.loop-start.inputs c.add.new.self (slice_get-get_or xs k no_start c.loop-start-test.true) c.requires.starts c.loop-start.invariant.distinct c.loop-start.invariant.beginnings c.in_ok-add.ensures in
    record { distinct = next.0; beginnings = next.1 }

pub returns-clause-beginnings : goal.returns-clause-beginnings
returns-clause-beginnings c = starts_all (routes_in c.args.self.now) c.args.starts.now c.loop-start.start-index c.loop-start.inputs c.loop-start-test.false c.requires.starts c.requires.network c.loop-start.invariant.beginnings
