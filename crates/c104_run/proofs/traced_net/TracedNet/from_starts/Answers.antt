use Rattle.{c104_node.specs.TracedRecords.counted_shown, c104_run.proofs.{KnownWires.unknown, TracedFirsts.{started_is, started_kept}}}
use Rattle.std.proofs.Common.{refl, ◌∙◌, ◌≡◌}
use Rattle.c104_run.proofs.traced_net.TracedNet.from_starts.Goals as goal

pub new-requires-in-Ok : goal.new-requires-in-Ok
new-requires-in-Ok c = unknown counted_shown (λ n. refl) c.in_ok-wires.wires c.add_nodes.new.list.items

pub invariant_of-result : goal.invariant_of-result
invariant_of-result c =
    let same : c.in_ok-wires.wires ≡ c.args.plan.now = c.in_ok-wires.ensures ∙ c.in_ok-copy.ensures.cases in (
      rw c.new-in-Ok.ensures (started_kept c.args.plan.now c.in_ok-wires.wires c.args.starts.now c.add_nodes.new.list.items same c.in-Ok.ensures c.requires),
      tt,
    )

pub returns-in-Ok : goal.returns-in-Ok
returns-in-Ok c =
    let same : c.in_ok-wires.wires ≡ c.args.plan.now = c.in_ok-wires.ensures ∙ c.in_ok-copy.ensures.cases in
    rw c.new-in-Ok.ensures (started_is c.args.plan.now c.in_ok-wires.wires c.args.starts.now c.add_nodes.new.list.items same c.in-Ok.ensures)
