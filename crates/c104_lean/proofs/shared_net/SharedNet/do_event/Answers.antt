use Rattle.{c104_lean.{proofs.EventNodes.both_inside, specs.Shared.SharedView}, c104_node.specs.Tagged.TaggedToken}
use Rattle.{c104_run.specs.{AskedActs.AreEnds, NetParts.node_count}, std.proofs.Common.{ap, subst, ◌<◌, ◌∙◌, ◌≡◌}}

pub do_crossings-requires-clause-inside : Rattle.c104_lean.proofs.shared_net.SharedNet.do_event.Goals.do_crossings-requires-clause-inside
do_crossings-requires-clause-inside g c =
    let same : c.self.inside.wires ≡ c.args.self.now.before.plan =
    c.self.invariant.0 ∙ ap (λ (s : SharedView). s.before.plan) c.self.view_is in
    subst (λ plan. c.in-Joint.far < node_count plan) same
    (both_inside c.self.inside.wires c.plan-plan.ensures.kept c.in-Joint.near c.in-Joint.far c.in-Joint.joint
    (subst (AreEnds {A = TaggedToken} c.self.inside.wires) c.in-Joint.is c.in_ok-asked.ensures.ends)).1
