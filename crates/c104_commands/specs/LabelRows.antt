-- What `label --rows` prints of a network: its shape, and the description of the plan by hand that has the image.
use Rattle.{c104_commands.specs.ShapeLines.{IsTaken, shape_line}, c104_describe.specs.{PlanPrint.plan_text, PlanText.read_description}}
use Rattle.c104_plan.specs.{PlanImage.{Image, hand_image}, Plans.Plan, RowPlans.{IsOfNetwork, row_plan}, TextCut.most_bytes}
use Rattle.c104_plan.specs.declared.plans.Shape.{Shape, TheVariants.Hand}
use Rattle.std.specs.Prelude.{Bool, List, Ok, codes, false, length, true, ℕ, ◌++◌, ◌≡◌, ◌≢◌, ◌≤◌}

-- a text is the description of this plan behind the line of another's shape, and is read as it, unless it is too long
abbrev pub IsShapedText : Plan → Plan → List ℕ → Type 0
IsShapedText plan rows text = (taken : Shape) × IsTaken plan.shape taken × (text ≡ shape_line plan taken ++ plan_text rows)
    × (length text ≤ most_bytes → read_description text ≡ Ok rows)

-- the plan by hand is one of the same network, which isn't labelled anew, since its own lines give the image
abbrev pub IsByRows : Plan → Image → Type 0
IsByRows plan image = IsOfNetwork plan (row_plan plan image)
    × ((row_plan plan image).shape ≡ Hand)
    × (hand_image (row_plan plan image) ≡ image)

-- the line where `row` lines can't say the labels
abbrev pub unsayable_text : List ℕ
unsayable_text = codes "rows 1 NotSayable\n"

-- what it prints: that description, or, refused, that `row` lines can't say the labels, where they give another image
abbrev pub PrintsRows : Plan → Image → List ℕ → Bool → Type 0
PrintsRows plan image text false = IsShapedText plan (row_plan plan image) text × IsByRows plan image
PrintsRows plan image text true = (text ≡ unsayable_text) × (hand_image (row_plan plan image) ≢ image)
