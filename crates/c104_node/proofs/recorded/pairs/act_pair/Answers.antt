use Rattle.c104_node.{proofs.NodePairs.{pair_answers, pair_done, pair_far}, specs.{Nodes.Node, PortActs.{far_act, near_act}}}
use Rattle.c104_node.specs.{Records.{NodeRecord, after_act, recorded_step}, declared.{acts.ActOf.ActOf, stamps.Stamp.Stamp}}
use Rattle.{c104_switch.specs.Actions.Reply, c104_token.specs.declared.tokens.Token.Token, std.proofs.Common.{Some, ap, is_some, subst}}
use Rattle.std.proofs.Common.{◌∙◌, ◌≡◌}
use Rattle.c104_node.proofs.recorded.pairs.act_pair.Goals as goal

made_at : (n : NodeRecord) (a b : ActOf Token) (r : Reply) (to : Node Token) → a ≡ b → recorded_step n a ≡ Some (r, to) → recorded_step n b ≡ Some (r, to)
made_at n a b r to same made = subst (λ (x : ActOf Token). recorded_step n x ≡ Some (r, to)) same made

pub act-done-requires-clause-ready : goal.act-done-requires-clause-ready
act-done-requires-clause-ready c =
    let gone = made_at c.args.near.now.0 c.near_act-going.result (near_act c.args.joint.crossing c.args.joint.near) c.act-told.result c.act-told.new.self.0.state c.near_act-going.ensures c.act-told.ensures.made in
    ap (λ (a : ActOf Token). is_some (recorded_step c.args.far.now.0 a)) c.far_act-coming.ensures ∙ pair_far c.args.joint c.args.near.now.0 c.args.far.now.0 c.act-told.result c.act-told.new.self.0.state c.requires.ready gone

pub returns-clause-far : goal.returns-clause-far
returns-clause-far c =
    let stamp : Stamp = record { ticket = c.args.ticket; seat = c.args.seat } in
    let gone = made_at c.args.near.now.0 c.near_act-going.result (near_act c.args.joint.crossing c.args.joint.near) c.act-told.result c.act-told.new.self.0.state c.near_act-going.ensures c.act-told.ensures.made in
    let came = made_at c.args.far.now.0 c.far_act-coming.result (far_act c.args.joint.far c.act-told.result) c.act-done.result c.act-done.new.self.0.state c.far_act-coming.ensures c.act-done.ensures.made in
    let answer = pair_answers c.args.joint c.args.near.now.0 c.args.far.now.0 (c.act-told.result, c.act-told.new.self.0.state) gone in
    let done = pair_done c.args.joint c.args.near.now.0 c.args.far.now.0 c.act-told.result (c.act-done.result, c.act-done.new.self.0.state) answer came in
    c.act-done.ensures.node
    ∙ ap (λ (a : ActOf Token). after_act c.args.far.now.0 stamp a c.act-done.result c.act-done.new.self.0.state) c.far_act-coming.ensures
    ∙ ap (λ (r : Reply). after_act c.args.far.now.0 stamp (far_act c.args.joint.far c.act-told.result) r c.act-done.new.self.0.state) done
