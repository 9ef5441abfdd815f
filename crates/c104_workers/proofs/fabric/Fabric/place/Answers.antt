use Rattle.{c104_workers.{proofs.EventPlaces.{Placed, placed}, specs.Fabrics.FabricView}, std.proofs.Common.{ap, subst, sym}}
use Rattle.c104_workers.proofs.fabric.Fabric.place.Goals as goal

pub returns-clause-lent : goal.returns-clause-lent
returns-clause-lent g c =
    let asked = placed c.self.inside.wires c.plan-plan.ensures.kept c.args.event.now c.in_ok-asked.asked c.in_ok-asked.ensures.fault c.in_ok-asked.ensures.acts c.in_ok-asked.ensures.ends in
    (subst (λ plan. Placed plan c.args.event.now c.places_of.result) (ap (λ (f : FabricView). f.handed.plan) c.self.view_is)
    (subst (Placed c.self.inside.wires c.args.event.now) (sym c.places_of.ensures) asked)).lent

pub returns-clause-inside : goal.returns-clause-inside
returns-clause-inside g c =
    let asked = placed c.self.inside.wires c.plan-plan.ensures.kept c.args.event.now c.in_ok-asked.asked c.in_ok-asked.ensures.fault c.in_ok-asked.ensures.acts c.in_ok-asked.ensures.ends in
    (subst (λ plan. Placed plan c.args.event.now c.places_of.result) (ap (λ (f : FabricView). f.handed.plan) c.self.view_is)
    (subst (Placed c.self.inside.wires c.args.event.now) (sym c.places_of.ensures) asked)).inside
