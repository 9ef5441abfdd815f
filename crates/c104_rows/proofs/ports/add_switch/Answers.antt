use Rattle.{c104_plan.proofs.RangeLists.flat_next, c104_rows.specs.Ports.link_ports, c104_run.proofs.RoundLists.links_passed}
use Rattle.std.{proofs.Common.{List, ap, arith, ℕ, ◌++◌, ◌∙◌}, specs.List.flat_map}
use Rattle.c104_rows.proofs.ports.add_switch.Goals as goal

pub loop-link-preserved : goal.loop-link-preserved
loop-link-preserved c =
    flat_next (link_ports c.args.plan.now c.args.timeline.now c.args.last c.args.switch) c.loop-link.link c.args.ports.now.items c.loop-link.ports.items _
    c.loop-link.invariant c.in_ok-add_link.ensures

pub returns : goal.returns
returns c =
    c.loop-link.invariant
    ∙ ap (λ (ns : List ℕ). c.args.ports.now.items ++ flat_map (link_ports c.args.plan.now c.args.timeline.now c.args.last c.args.switch) ns)
    (links_passed c.loop-link.link (omega arith))
