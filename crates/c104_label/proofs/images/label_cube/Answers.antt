use Rattle.{c104_check.specs.Routes.routes_of, c104_label.proofs.{AcceptedCubes.{cube_accepted, cube_crossed}, CubeRanks.cube_acyclic}}
use Rattle.c104_label.{proofs.NeverRandomized.by_shape, specs.Crossings.AreCrossings}
use Rattle.{c104_plan.specs.declared.plans.Shape.TheVariants.Cube, std.proofs.Common.{refl, subst, sym}}
use Rattle.c104_label.proofs.images.label_cube.Goals as goal

pub returns-in_ok-image-in-Cube-clause-accepted : goal.returns-in_ok-image-in-Cube-clause-accepted
returns-in_ok-image-in-Cube-clause-accepted c =
    cube_accepted c.args.plan.now c.in-Cube.dimensions c.in-Cube.terminals c.in_ok-image-in-Cube.image c.in-Cube.ensures.kept (sym c.in-Cube.ensures.shape)
    (record { is = c.in_ok-image-in-Cube.ensures.image; tables = c.in_ok-image-in-Cube.ensures.labels })

pub returns-in_ok-image-in-Cube-clause-crossings : goal.returns-in_ok-image-in-Cube-clause-crossings
returns-in_ok-image-in-Cube-clause-crossings c =
    subst (λ shape. AreCrossings shape (routes_of c.args.plan.now c.in_ok-image-in-Cube.image)) c.in-Cube.ensures.shape
    (cube_crossed c.args.plan.now c.in-Cube.dimensions c.in-Cube.terminals c.in_ok-image-in-Cube.image c.in-Cube.ensures.kept (sym c.in-Cube.ensures.shape)
    (record { is = c.in_ok-image-in-Cube.ensures.image; tables = c.in_ok-image-in-Cube.ensures.labels }))

pub returns-in_ok-image-in-Cube-clause-acyclic : goal.returns-in_ok-image-in-Cube-clause-acyclic
returns-in_ok-image-in-Cube-clause-acyclic c =
    cube_acyclic c.args.plan.now c.in-Cube.dimensions c.in-Cube.terminals c.in_ok-image-in-Cube.image c.in-Cube.ensures.kept (sym c.in-Cube.ensures.shape)
    (record { is = c.in_ok-image-in-Cube.ensures.image; tables = c.in_ok-image-in-Cube.ensures.labels })

pub returns-in_ok-image-in-Cube-clause-never_randomized : goal.returns-in_ok-image-in-Cube-clause-never_randomized
returns-in_ok-image-in-Cube-clause-never_randomized c =
    by_shape c.args.plan.now c.in_ok-image-in-Cube.image (Cube c.in-Cube.dimensions c.in-Cube.terminals) c.in-Cube.ensures.kept c.in-Cube.ensures.shape refl
    (record { is = c.in_ok-image-in-Cube.ensures.image; tables = c.in_ok-image-in-Cube.ensures.labels })
