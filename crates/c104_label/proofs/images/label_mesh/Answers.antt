use Rattle.{c104_check.specs.Routes.routes_of, c104_label.proofs.{AcceptedMeshes.{mesh_accepted, mesh_crossed}, MeshRanks.mesh_acyclic}}
use Rattle.c104_label.{proofs.NeverRandomized.by_shape, specs.Crossings.AreCrossings}
use Rattle.{c104_plan.specs.declared.plans.Shape.TheVariants.Mesh, std.proofs.Common.{refl, subst, sym}}
use Rattle.c104_label.proofs.images.label_mesh.Goals as goal

pub returns-in_ok-image-in-Mesh-clause-accepted : goal.returns-in_ok-image-in-Mesh-clause-accepted
returns-in_ok-image-in-Mesh-clause-accepted c =
    mesh_accepted c.args.plan.now c.in-Mesh.width c.in-Mesh.height c.in-Mesh.terminals c.in_ok-image-in-Mesh.image c.in-Mesh.ensures.kept (sym c.in-Mesh.ensures.shape)
    (record { is = c.in_ok-image-in-Mesh.ensures.image; tables = c.in_ok-image-in-Mesh.ensures.labels })

pub returns-in_ok-image-in-Mesh-clause-crossings : goal.returns-in_ok-image-in-Mesh-clause-crossings
returns-in_ok-image-in-Mesh-clause-crossings c =
    subst (λ shape. AreCrossings shape (routes_of c.args.plan.now c.in_ok-image-in-Mesh.image)) c.in-Mesh.ensures.shape
    (mesh_crossed c.args.plan.now c.in-Mesh.width c.in-Mesh.height c.in-Mesh.terminals c.in_ok-image-in-Mesh.image c.in-Mesh.ensures.kept (sym c.in-Mesh.ensures.shape)
    (record { is = c.in_ok-image-in-Mesh.ensures.image; tables = c.in_ok-image-in-Mesh.ensures.labels }))

pub returns-in_ok-image-in-Mesh-clause-acyclic : goal.returns-in_ok-image-in-Mesh-clause-acyclic
returns-in_ok-image-in-Mesh-clause-acyclic c =
    mesh_acyclic c.args.plan.now c.in-Mesh.width c.in-Mesh.height c.in-Mesh.terminals c.in_ok-image-in-Mesh.image c.in-Mesh.ensures.kept (sym c.in-Mesh.ensures.shape)
    (record { is = c.in_ok-image-in-Mesh.ensures.image; tables = c.in_ok-image-in-Mesh.ensures.labels })

pub returns-in_ok-image-in-Mesh-clause-never_randomized : goal.returns-in_ok-image-in-Mesh-clause-never_randomized
returns-in_ok-image-in-Mesh-clause-never_randomized c =
    by_shape c.args.plan.now c.in_ok-image-in-Mesh.image (Mesh c.in-Mesh.width c.in-Mesh.height c.in-Mesh.terminals) c.in-Mesh.ensures.kept c.in-Mesh.ensures.shape refl
    (record { is = c.in_ok-image-in-Mesh.ensures.image; tables = c.in_ok-image-in-Mesh.ensures.labels })
