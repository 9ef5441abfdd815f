use Rattle.{c104_session.proofs.Starts.started, std.proofs.Common.{Err, Ok, ◌∙◌}}
use Rattle.c104_session.proofs.starting.begin_loaded.Goals as goal

pub out_of_memory-requires : goal.out_of_memory-requires
out_of_memory-requires c =
    started c.args.plan.now c.args.image.now c.switches-switches.ensures.kept c.requires.fits c.args.net.now c.requires.new c.told_plan-plan.ensures.told
    (Err c.in-Err.fault) c.load_net.new.net c.in-Err.ensures.ends c.in-Err.ensures.loaded

pub returns-in-Ok : goal.returns-in-Ok
returns-in-Ok c =
    c.begin.ensures.begun
    ∙ started c.args.plan.now c.args.image.now c.switches-switches.ensures.kept c.requires.fits c.args.net.now c.requires.new c.told_plan-plan.ensures.told
    (Ok c.in-Ok.field-0) c.load_net.new.net c.in-Ok.ensures.ends c.in-Ok.ensures.loaded c.begin.result c.begin.ensures.quiet
