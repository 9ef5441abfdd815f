-- What is left of a plan without wires, port by port.
use Rattle.c104_commands.specs.LeftRows.{PrintsLeft, PrintsRest, Takes, and_left, left_plan, names_of, plan_past, wire_at}
use Rattle.{c104_commands.specs.declared.shows.Printed.Printed, c104_plan.specs.{PlanImage.{Image, hand_image}, Plans.Plan}}
use Rattle.{c104_plan.specs.RowPlans.row_plan, c104_token.specs.declared.faults.NoMemory.NoMemory, std.proofs.Common.{Bool, Bor, Err, IfOk}}
use Rattle.std.proofs.Common.{IfSome, List, None, Ok, Option, Result, Some, add-one, ap, arith, drop, drop-cons, false, get_or, inr, length}
use Rattle.std.proofs.{Common.{subst, sym, true, ℕ, ◌+◌, ◌<◌, ◌∙◌, ◌∷◌, ◌≡◌}, lemmas.List.{get_or-map, length-map}}

-- the names from a place on begin with the one there
names_from : (ports : List (Bor (List ℕ))) (i : ℕ) (d : Bor (List ℕ)) → i < length ports → drop i (names_of ports) ≡ (get_or ports i d).now ∷ drop (i + 1) (names_of ports)
names_from ports i d inside =
    let here : get_or (names_of ports) i d.now ≡ (get_or ports i d).now = get_or-map (λ (w : Bor (List ℕ)). w.now) ports i d d.now inside in
    let room : i < length (names_of ports) = omega (arith, length-map ports (λ (w : Bor (List ℕ)). w.now)) in
    rw (add-one, drop-cons (names_of ports) i d.now room, here)

module _ (ports : List (Bor (List ℕ))) (i : ℕ) (d : Bor (List ℕ)) (inside : i < length ports) (plan rows : Plan) (before : left_plan plan (drop i (names_of ports)) ≡ left_plan rows (names_of ports)) where
  by_port : left_plan rows (names_of ports) ≡ and_left (plan_past plan (get_or ports i d).now (wire_at plan (get_or ports i d).now)) (λ left. left_plan left (drop (i + 1) (names_of ports)))
  by_port = sym before ∙ ap (λ names. left_plan plan names) (names_from ports i d inside)

  pub left_next : (next : Plan) → Takes plan (get_or ports i d).now next true → left_plan next (drop (i + 1) (names_of ports)) ≡ left_plan rows (names_of ports)
  left_next next taken = sym (by_port ∙ ap (λ found. and_left found (λ left. left_plan left (drop (i + 1) (names_of ports)))) taken)

  pub left_stops : (next : Plan) → Takes plan (get_or ports i d).now next false → left_plan rows (names_of ports) ≡ Err (get_or ports i d).now
  left_stops next taken = by_port ∙ ap (λ found. and_left found (λ left. left_plan left (drop (i + 1) (names_of ports)))) taken

-- what is printed of the plan by hand is printed of the network
pub rest_printed : (names : List (List ℕ)) (plan : Plan) (image : Image) (made : Option Plan) (rows : Plan) (text : List ℕ) (refused : Bool) → made ≡ Some rows → IfSome made (λ own. own ≡ row_plan plan image) → IfSome made (λ own. hand_image own ≡ image) → PrintsRest names plan rows text refused → PrintsLeft names plan image text refused
rest_printed names plan image None rows text refused is same own prints = absurd cc
rest_printed names plan image (Some made) rows text false is same own prints =
    let one : made ≡ rows = cc in
    (subst (λ (p : Plan). hand_image p ≡ image) same own, subst (λ (p : Plan). PrintsRest names plan p text false) (sym one ∙ same) prints)
rest_printed names plan image (Some made) rows text true is same own prints =
    let one : made ≡ rows = cc in
    inr (subst (λ (p : Plan). hand_image p ≡ image) same own, subst (λ (p : Plan). PrintsRest names plan p text true) (sym one ∙ same) prints)

-- the same of what came of it
pub rest_came : (names : List (List ℕ)) (plan : Plan) (image : Image) (made : Option Plan) (rows : Plan) (r : Result Printed NoMemory) → made ≡ Some rows → IfSome made (λ own. own ≡ row_plan plan image) → IfSome made (λ own. hand_image own ≡ image) → IfOk r (λ printed. PrintsRest names plan rows printed.text.items printed.refused) → IfOk r (λ printed. PrintsLeft names plan image printed.text.items printed.refused)
rest_came names plan image made rows (Ok printed) is same own prints = rest_printed names plan image made rows printed.text.items printed.refused is same own prints
rest_came names plan image made rows (Err e) is same own prints = prints
