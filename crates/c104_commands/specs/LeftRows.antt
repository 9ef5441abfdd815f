-- What `label --rows --without` prints of a network (`PrintsLeft`): the description of what is left of it without some wires.
use Rattle.c104_commands.specs.{LabelRows.{IsShapedText, unsayable_text}, WithoutWires.without_wire, declared.left_rows.Left.Left}
use Rattle.c104_plan.specs.{PlanImage.{Image, hand_image}, Plans.Plan, PortTexts.port_text, RowPlans.row_plan, declared.ports.Wire.Wire}
use Rattle.std.specs.{Borrow.Bor, List.position_from, Prelude.{Bool, Err, List, None, Ok, Option, Result, Some, [], bytes_eq, codes, false}}
use Rattle.std.specs.Prelude.{map, true, ℕ, ◌++◌, ◌||◌, ◌∷◌, ◌≡◌, ◌≢◌, ◌⊎◌}

-- whether a wire is at the port of this name
abbrev pub is_at : Plan → List ℕ → Wire → Bool
is_at plan name w = bytes_eq (port_text plan w.here) name || bytes_eq (port_text plan w.there) name

-- the number of the wire between switches that is, if there is one
abbrev pub wire_at : Plan → List ℕ → Option ℕ
wire_at plan name = position_from (is_at plan name) 0 plan.wires

-- the plan without it
abbrev pub plan_past : Plan → List ℕ → Option ℕ → Result Plan (List ℕ)
plan_past plan name None = Err name
plan_past plan name (Some k) = Ok (without_wire plan k)

-- and then without others
abbrev pub and_left : Result Plan (List ℕ) → (Plan → Result Plan (List ℕ)) → Result Plan (List ℕ)
and_left (Ok plan) rest = rest plan
and_left (Err name) rest = Err name

-- the plan without the wires at these ports, one after the other
abbrev pub left_plan : Plan → List (List ℕ) → Result Plan (List ℕ)
left_plan plan [] = Ok plan
left_plan plan (name ∷ names) = and_left (plan_past plan name (wire_at plan name)) (λ left. left_plan left names)

-- the names of ports
abbrev pub names_of : List (Bor (List ℕ)) → List (List ℕ)
names_of ports = map (λ (port : Bor (List ℕ)). port.now) ports

-- a plan lost that wire, or there is none
abbrev pub Takes : Plan → List ℕ → Plan → Bool → Type 0
Takes old name new true = plan_past old name (wire_at old name) ≡ Ok new
Takes old name new false = plan_past old name (wire_at old name) ≡ Err name

-- it lost all, or there is none at this port, the first of such
abbrev pub TakesAll : Plan → List (List ℕ) → Plan → Option (Bor (List ℕ)) → Type 0
TakesAll old names new None = left_plan old names ≡ Ok new
TakesAll old names new (Some port) = left_plan old names ≡ Err port.now

-- what is left without all, or the first port at which there is none
abbrev pub IsLeftOf : Plan → List (List ℕ) → Left → Type 0
IsLeftOf plan names (Left.Plan left) = left_plan plan names ≡ Ok left
IsLeftOf plan names (Left.Unwired port) = left_plan plan names ≡ Err port.now

-- the line where no wire between switches is at a port
abbrev pub unwired_text : List ℕ → List ℕ
unwired_text name = codes "rows 2 NoWire: " ++ (name ++ codes "\n")

-- what is printed of the plan by hand of a network: the description of what is left of it, or that no wire is at some port
abbrev pub PrintsRest : List (List ℕ) → Plan → Plan → List ℕ → Bool → Type 0
PrintsRest names plan rows text false = (left : Plan) × (left_plan rows names ≡ Ok left) × IsShapedText plan left text
PrintsRest names plan rows text true = (name : List ℕ) × (left_plan rows names ≡ Err name) × (text ≡ unwired_text name)

-- what it prints: that, or, refused, that `row` lines can't say the labels
abbrev pub PrintsLeft : List (List ℕ) → Plan → Image → List ℕ → Bool → Type 0
PrintsLeft names plan image text false =
    (hand_image (row_plan plan image) ≡ image) × PrintsRest names plan (row_plan plan image) text false
PrintsLeft names plan image text true =
    ((text ≡ unsayable_text) × (hand_image (row_plan plan image) ≢ image))
    ⊎ ((hand_image (row_plan plan image) ≡ image) × PrintsRest names plan (row_plan plan image) text true)
