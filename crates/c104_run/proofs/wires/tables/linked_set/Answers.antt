use Rattle.{c104_run.proofs.{FarEndLists.{links_counted, wired_at}, WiredPorts.linked_more}, std.proofs.Common.{None, arith, ◌∙◌}}
use Rattle.c104_run.proofs.wires.tables.linked_set.Goals as goal

pub bounds-links-switch : goal.bounds-links-switch
bounds-links-switch c =
    let counted = links_counted c.args.plan.now c.args.links.now c.requires.links in
    let inside = c.requires.switch in
    let below = c.loop-link-test in
    omega (arith, counted, inside, below)

pub loop-link-preserved : goal.loop-link-preserved
loop-link-preserved c = linked_more c.args.plan.now c.args.switch c.loop-link.link c.loop-link.set c.set.new.self c.loop-link.invariant (λ inside. c.set.ensures.here inside ∙ c.is_some.ensures ∙ wired_at c.args.plan.now c.args.links.now c.requires.links c.args.switch c.loop-link.link None c.requires.switch inside) c.set.ensures.others
