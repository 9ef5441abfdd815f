use Rattle.{c104_plan.specs.{PlanImage.Fits, Plans.{IsPlan, Plan}}, c104_run.proofs.{BalancePlaced.steady_made, FirstRecords.first_is}}
use Rattle.c104_run.{proofs.{FirstRecords.net_first, LinkedNodes.nodes_know}, specs.{NetRecords.fresh_record, Network.placed_network}}
use Rattle.{c104_run.specs.RecordedPlaces.node_reading, std.proofs.Common.{ap, refl, subst, sym, ◌∙◌}}
use Rattle.c104_run.proofs.net.Net.started.Goals as goal

pub place_recorded-requires-clause-fits : goal.place_recorded-requires-clause-fits
place_recorded-requires-clause-fits c = subst (Fits c.args.image.now) (sym c.in_ok-frame.ensures.wires) c.requires

pub new-requires-in-Ok : goal.new-requires-in-Ok
new-requires-in-Ok c =
    let wires : Plan = c.in_ok-frame.frame.wires in
    let is_plan : IsPlan wires = subst IsPlan (sym c.in_ok-frame.ensures.wires) c.in_ok-frame.ensures.kept in
    nodes_know wires is_plan c.place_recorded.new.list.items c.in-Ok.ensures.linked

pub invariant_of-result : goal.invariant_of-result
invariant_of-result c =
    let wires : Plan = c.in_ok-frame.frame.wires in
    let is_plan : IsPlan wires = subst IsPlan (sym c.in_ok-frame.ensures.wires) c.in_ok-frame.ensures.kept in
    let fits : Fits c.args.image.now wires = subst (Fits c.args.image.now) (sym c.in_ok-frame.ensures.wires) c.requires in (
      rw c.new-in-Ok.ensures (net_first wires wires (placed_network wires c.args.image.now).nodes c.place_recorded.new.list.items refl c.in-Ok.ensures.first (steady_made wires wires c.args.image.now (placed_network wires c.args.image.now).nodes refl refl fits is_plan)),
      rw c.new-in-Ok.ensures c.in_ok-frame.ensures.room,
    )

pub returns-in-Ok : goal.returns-in-Ok
returns-in-Ok c =
    let wires : Plan = c.in_ok-frame.frame.wires in
    rw c.new-in-Ok.ensures
    (first_is node_reading wires wires (placed_network wires c.args.image.now).nodes c.place_recorded.new.list.items refl c.in-Ok.ensures.first
    ∙ ap (λ (p : Plan). fresh_record (placed_network p c.args.image.now)) c.in_ok-frame.ensures.wires)
