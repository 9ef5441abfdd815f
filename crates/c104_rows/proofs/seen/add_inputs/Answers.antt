use Rattle.{c104_plan.proofs.RangeLists.flat_next, c104_rows.specs.States.wishes_of}

pub loop-place-preserved : Rattle.c104_rows.proofs.seen.add_inputs.Goals.loop-place-preserved
loop-place-preserved c =
    flat_next (wishes_of c.args.net.now c.args.still c.args.round) c.loop-place.place c.args.list.now.items c.loop-place.list.items _
    c.loop-place.invariant c.in_ok-add_wishes.ensures
