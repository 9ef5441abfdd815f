use Rattle.{c104_plan.specs.Plans.{IsPlan, Plan}, c104_run.proofs.{BalancePlaced.steady_new, FirstRecords.{first_is, net_first}}}
use Rattle.c104_run.{proofs.LinkedNodes.nodes_know, specs.{NetRecords.fresh_record, Network.new_network, RecordedPlaces.node_reading}}
use Rattle.std.proofs.Common.{ap, refl, subst, sym, ◌∙◌}
use Rattle.c104_run.proofs.net.Net.new.Goals as goal

pub new-requires-in-Ok : goal.new-requires-in-Ok
new-requires-in-Ok c =
    let wires : Plan = c.in_ok-frame.frame.wires in
    let is_plan : IsPlan wires = subst IsPlan (sym c.in_ok-frame.ensures.wires) c.in_ok-frame.ensures.kept in
    nodes_know wires is_plan c.place_new_recorded.new.list.items c.in-Ok.ensures.linked

pub invariant_of-result : goal.invariant_of-result
invariant_of-result c =
    let wires : Plan = c.in_ok-frame.frame.wires in
    let is_plan : IsPlan wires = subst IsPlan (sym c.in_ok-frame.ensures.wires) c.in_ok-frame.ensures.kept in (
      rw c.new-in-Ok.ensures (net_first wires wires (new_network wires).nodes c.place_new_recorded.new.list.items refl c.in-Ok.ensures.first (steady_new wires (new_network wires).nodes refl is_plan)),
      rw c.new-in-Ok.ensures c.in_ok-frame.ensures.room,
    )

pub returns-in-Ok : goal.returns-in-Ok
returns-in-Ok c =
    let wires : Plan = c.in_ok-frame.frame.wires in
    rw c.new-in-Ok.ensures
    (first_is node_reading wires wires (new_network wires).nodes c.place_new_recorded.new.list.items refl c.in-Ok.ensures.first
    ∙ ap (λ (p : Plan). fresh_record (new_network p)) c.in_ok-frame.ensures.wires)
