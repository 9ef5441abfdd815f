use Rattle.{c104_plan.specs.declared.ports.Port.Port, c104_run.{proofs.FarEndLists.{link_at, links_counted}, specs.FarEnds.far_end}}
use Rattle.std.proofs.{Common.{None, ap, arith, length, ◌<◌, ◌∙◌}, lemmas.List.get_or_read}
use Rattle.c104_run.proofs.wires.Wires.end_of_link.Goals as goal

pub index-requires : goal.index-requires
index-requires c =
    let counted = links_counted c.self.inside.plan c.self.inside.links.items c.self.invariant.0 in
    let inside : c.args.switch < length c.self.inside.plan.switches = rw c.self.view_is c.requires.0 in
    omega (arith, counted, inside, c.requires.1, c.self.inside.links.ok.0)

pub returns : goal.returns
returns c =
    let counted = links_counted c.self.inside.plan c.self.inside.links.items c.self.invariant.0 in
    let inside : c.args.switch < length c.self.inside.plan.switches = rw c.self.view_is c.requires.0 in
    get_or_read c.self.inside.links.items _ _ (omega (arith, counted, inside, c.requires.1)) c.index.ensures None
    ∙ link_at c.self.inside.plan c.self.inside.links.items c.self.invariant.0 c.args.switch c.args.link None inside c.requires.1
    ∙ ap (λ plan. far_end plan (Port.Switch c.args.switch c.args.link)) c.self.view_is
