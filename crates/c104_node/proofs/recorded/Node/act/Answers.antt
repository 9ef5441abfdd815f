use Rattle.c104_node.{proofs.RecordedNodes.{recorded_kept, recorded_made, recorded_ready}, specs.Records.{NodeRecord, recorded_limit}}
use Rattle.{c104_node.specs.Records.recorded_step, std.proofs.Common.{None, ap, is_some, subst, sym, true, ◌≡◌}}
use Rattle.c104_node.proofs.recorded.Node.act.Goals as goal

-- the node as it was, by its fields
abbrev node_of : goal.After-push_reserved → NodeRecord
node_of c = record { cap = c.self.inside.cap; wired = c.self.inside.wired; state = c.self.inside.core; start = c.self.inside.start; trace = c.self.inside.trace.items }

seen : (c : goal.After-push_reserved) → c.args.self.now.0 ≡ node_of c
seen c = sym (ap (λ w. w.0) c.self.view_is)

was_ready : (c : goal.After-push_reserved) → is_some (recorded_step (node_of c) c.args.act) ≡ true
was_ready c = subst (λ (n : NodeRecord). is_some (recorded_step n c.args.act) ≡ true) (seen c) c.requires.ready

-- the run goes on by this act
pub invariant_of-self : goal.invariant_of-self
invariant_of-self c = rw (c.push_reserved.ensures.items, c.same_reply-told.ensures) (recorded_kept (node_of c) c.args.act c.act_reserved-reply.result c.act_reserved-reply.new.self (was_ready c) c.act_reserved-reply.ensures (record { ticket = c.args.ticket; seat = c.args.seat }) c.self.invariant c.requires.short
    (subst (λ (n : NodeRecord). recorded_limit n c.args.act ≡ None) (seen c) c.requires.below))

pub returns-clause-made : goal.returns-clause-made
returns-clause-made c = rw (seen c) (recorded_made (node_of c) c.args.act c.act_reserved-reply.result c.act_reserved-reply.new.self (was_ready c) c.act_reserved-reply.ensures)

pub returns-clause-done : goal.returns-clause-done
returns-clause-done c = recorded_ready (node_of c) c.args.act c.act_reserved-reply.result c.act_reserved-reply.new.self (was_ready c) c.act_reserved-reply.ensures
