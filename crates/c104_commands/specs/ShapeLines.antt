-- The line of a network's shape, a comment before a description by `row` lines.
--     IsTaken shape taken      by this shape a network of a plan's shape was labelled
--     shape_line plan taken      the line of it
use Rattle.{c104_describe.specs.PlanPrint.text_of, c104_plan.specs.{Plans.Plan, PortTexts.switch_name, declared.plans.Shape.Shape}}
use Rattle.c104_plan.specs.declared.plans.Shape.TheVariants.{Cube, Hand, Mesh, Tree, UpDown}
use Rattle.std.specs.{Fmt.decimal, Prelude.{List, None, Option, Some, [], codes, ℕ, ◌++◌, ◌∷◌, ◌≡◌}}

-- the shape of the plan; where packets go up and down, from any root
abbrev pub IsTaken : Shape → Shape → Type 0
IsTaken Hand taken = taken ≡ Hand
IsTaken (Tree root) taken = taken ≡ Tree root
IsTaken (UpDown named) taken = (root : Option ℕ) × (taken ≡ UpDown root)
IsTaken (Mesh w h p) taken = taken ≡ Mesh w h p
IsTaken (Cube d p) taken = taken ≡ Cube d p

-- the words of a shape
abbrev pub shape_words : Plan → Shape → List (List ℕ)
shape_words plan Hand = codes "shape" ∷ codes "hand" ∷ []
shape_words plan (Tree root) = codes "shape" ∷ codes "tree" ∷ switch_name plan root ∷ []
shape_words plan (UpDown None) = codes "shape" ∷ codes "up-down" ∷ []
shape_words plan (UpDown (Some root)) = codes "shape" ∷ codes "up-down" ∷ switch_name plan root ∷ []
shape_words plan (Mesh w h p) = codes "shape" ∷ codes "mesh" ∷ decimal w ∷ decimal h ∷ decimal p ∷ []
shape_words plan (Cube d p) = codes "shape" ∷ codes "cube" ∷ decimal d ∷ decimal p ∷ []

-- behind what begins a comment
abbrev pub shape_line : Plan → Shape → List ℕ
shape_line plan taken = codes "# " ++ text_of (shape_words plan taken ∷ [])
