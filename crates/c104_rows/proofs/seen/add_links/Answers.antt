use Rattle.{c104_plan.proofs.RangeLists.flat_next, c104_rows.specs.States.{Way, link_ways, shown_way}, std.proofs.Common.{ap, ◌++◌, ◌∙◌}}

pub loop-place-preserved : Rattle.c104_rows.proofs.seen.add_links.Goals.loop-place-preserved
loop-place-preserved c =
    flat_next (link_ways c.args.net.now c.args.still c.args.round) c.loop-place.place c.args.list.now.items c.loop-place.list.items _
    c.loop-place.invariant
    (c.in_ok-add_way.ensures ∙ ap (λ (w : Way). c.loop-place.list.items ++ shown_way w) c.link_way.ensures)
