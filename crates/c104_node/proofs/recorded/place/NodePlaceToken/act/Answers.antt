use Rattle.c104_node.{proofs.{ReadyActs.answered_ready, RecordedNodes.place_kept}, specs.{ActLinks.on_links, Acts.node_act}}
use Rattle.{c104_node.specs.{PortActs.act_limit, Records.{NodeRecord, has_link, is_full}}, c104_token.specs.Kinds.plain_kind}
use Rattle.std.proofs.Common.{None, Some, ap, false, subst, sym, true, ◌≡◌}

-- the run goes on by this act
pub invariant_of-self-2 : Rattle.c104_node.proofs.recorded.place.NodePlaceToken.act.Goals.invariant_of-self-2
invariant_of-self-2 c =
    let n : NodeRecord = record { cap = c.self.inside.cap; wired = c.self.inside.wired; state = c.self.inside.core; start = c.self.inside.start; trace = c.self.inside.trace.items } in
    let seen : c.args.self.now.0 ≡ n = sym (ap (λ w. w.0) c.self.view_is) in
    rw (c.push_reserved.ensures.items, c.same_reply-told.ensures) (place_kept n c.args.number c.args.act
    (subst (λ (m : NodeRecord). on_links (has_link m.wired) c.args.act ≡ true) seen c.requires.linked)
    (answered_ready (node_act plain_kind c.args.number c.args.act n.state) c.in_ok-reply.reply c.act.new.self n.state c.in_default.not-NotReady c.in_ok-reply.ensures.acted)
    c.in_ok-reply.reply c.act.new.self c.args.stamp c.in_ok-reply.ensures.acted c.self.invariant c.requires.short
    (subst (λ (m : NodeRecord). act_limit (Some m.state) c.args.act ≡ None) seen c.requires.below)
    (subst (λ (m : NodeRecord). is_full m ≡ false) seen c.requires.room.1))
