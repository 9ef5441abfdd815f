-- One line read: what the rest says after it is what was due before it.
use Rattle.c104_describe.specs.{LineFaults.read_plan_line, PlanFaults.{PlanFaultKind, fault_at}, PlanLines.Draft, PlanText.draft_after_line}
use Rattle.{c104_describe.specs.PlanText.{empty_draft, read_plan_lines}, std.proofs.Common.{Bor, Err, List, Ok, add-one, ap, arith, drop}}
use Rattle.std.proofs.{Common.{get_or, length, map, sym, ℕ, ◌+◌, ◌<◌, ◌∙◌, ◌∷◌, ◌≡◌}, Math.Seq.drop-cons, lemmas.List.get_or-map}
use Rattle.std.proofs.lemmas.List.{length-map}

-- the texts of lent slices
abbrev pub texts : List (Bor (List ℕ)) → List (List ℕ)
texts list = map (λ line. line.now) list

-- the texts from a place on begin with the one there
from_place : (list : List (Bor (List ℕ))) (i : ℕ) (d : Bor (List ℕ)) → i < length list → drop i (texts list) ≡ (get_or list i d).now ∷ drop (i + 1) (texts list)
from_place list i d inside =
    let here : get_or (texts list) i d.now ≡ (get_or list i d).now = get_or-map (λ (w : Bor (List ℕ)). w.now) list i d d.now inside in
    let room : i < length (texts list) = omega (arith, length-map list (λ (w : Bor (List ℕ)). w.now)) in
    rw (add-one, drop-cons (texts list) i d.now room, here)

-- at a place of the list, with the draft so far
module _ (list : List (Bor (List ℕ))) (i : ℕ) (d : Bor (List ℕ)) (inside : i < length list) (draft : Draft) (due : read_plan_lines (i + 1) (drop i (texts list)) draft ≡ read_plan_lines 1 (texts list) empty_draft) where
  by_line : read_plan_lines 1 (texts list) empty_draft ≡ draft_after_line (i + 1) (read_plan_line draft (get_or list i d).now) (λ next. read_plan_lines (i + 1 + 1) (drop (i + 1) (texts list)) next)
  by_line = sym due ∙ ap (λ lines. read_plan_lines (i + 1) lines draft) (from_place list i d inside)

  pub after_line : (next : Draft) → read_plan_line draft (get_or list i d).now ≡ Ok next → read_plan_lines (i + 1 + 1) (drop (i + 1) (texts list)) next ≡ read_plan_lines 1 (texts list) empty_draft
  after_line next is = sym (by_line ∙ ap (λ said. draft_after_line (i + 1) said (λ p. read_plan_lines (i + 1 + 1) (drop (i + 1) (texts list)) p)) is)

  pub at_fault : (kind : PlanFaultKind) → read_plan_line draft (get_or list i d).now ≡ Err kind → read_plan_lines 1 (texts list) empty_draft ≡ Err (fault_at (i + 1) kind)
  at_fault kind is = by_line ∙ ap (λ said. draft_after_line (i + 1) said (λ p. read_plan_lines (i + 1 + 1) (drop (i + 1) (texts list)) p)) is
