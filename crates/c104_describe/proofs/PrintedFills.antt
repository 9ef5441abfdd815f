-- What is printed of a mesh or a cube is read back.
use Rattle.c104_describe.proofs.{PrintedDeletes.{deletes_alone, deletes_read, groups_alone}, PrintedNumbers.{number-decimal, value-decimal}}
use Rattle.c104_describe.proofs.{PrintedParts.lines_after_network, PrintedSteps.{draft_with, with_deletes}, PrintedText.read_lines_of_words}
use Rattle.c104_describe.specs.{LineFaults.read_plan_words, PlanLines.filled_plan, PlanPrint.{cube_words, mesh_words}}
use Rattle.{c104_describe.specs.PlanText.{draft_after_line, plan_of_draft}, c104_plan.specs.Layouts.{IsCube, IsMesh, Layout, cube, mesh}}
use Rattle.c104_plan.specs.{PlanParts.empty_plan, Plans.{IsFilled, IsPlan, Plan}, declared.plans.Shape.{Shape, TheVariants.{Cube, Mesh}}}
use Rattle.std.proofs.Common.{List, None, Ok, [], ap, arith, false, nat_lt, refl, true, ℕ, ◌*◌, ◌+◌, ◌^◌, ◌∙◌, ◌∷◌, ◌≡◌}
use Rattle.std.proofs.lemmas.Bool.Decides.{nat_tests}

module _ (plan : Plan) (kept : IsPlan plan) where
  -- the plan behind the lines of the header length and the buffer size
  abbrev pub begun : Plan
  begun = record empty_plan { header = plan.header; cap = plan.cap }

  -- the filled plan is this one, but for its deletes
  module _ (shape : Shape) (layout : Layout) (p : ℕ) (is_shape : plan.shape ≡ shape) (is : IsFilled layout p plan) where
    made : filled_plan shape layout p begun ≡ with_deletes plan kept []
    made = search arith

    pub read_filled : (n : ℕ) (words : List (List ℕ)) → read_plan_words (draft_with false None begun) true words ≡ Ok (draft_with false None (filled_plan shape layout p begun))
        → plan_of_draft (read_lines_of_words n (words ∷ lines_after_network plan) (draft_with false None begun)) ≡ Ok plan
    read_filled n words said =
        ap (λ r. plan_of_draft (draft_after_line n r (λ next. read_lines_of_words (n + 1) (lines_after_network plan) next))) said
        ∙ (λ i. plan_of_draft (read_lines_of_words (n + 1) (deletes_alone plan kept (groups_alone plan is.unset) is.unset.continues i) (draft_with false None (made i))))
        ∙ ap plan_of_draft (deletes_read plan kept (groups_alone plan is.unset) (n + 1) false None)

  pub read_mesh : (w h p : ℕ) → plan.shape ≡ Mesh w h p → IsMesh w h p → IsFilled (mesh w h) p plan → (n : ℕ) → plan_of_draft (read_lines_of_words n (mesh_words w h p ∷ lines_after_network plan) (draft_with false None begun)) ≡ Ok plan
  read_mesh w h p is_shape sizes is n =
      let wide = number-decimal 1 64 w (omega (arith, sizes.wide.0)) sizes.wide.1 (omega (arith, sizes.wide.1)) in
      let high = number-decimal 1 64 h (omega (arith, sizes.high.0)) sizes.high.1 (omega (arith, sizes.high.1)) in
      let some = number-decimal 1 28 p (omega (arith, sizes.some)) sizes.links (omega (arith, sizes.links)) in
      let few : nat_lt 64 (w * h) ≡ false = grind (arith, nat_tests, sizes.switches) in
      let labels : nat_lt 256 (w * h * p) ≡ false = grind (arith, nat_tests, sizes.labels) in
      read_filled (Mesh w h p) (mesh w h) p is_shape is n (mesh_words w h p) (rw (wide, high, some, value-decimal w (omega (arith, sizes.wide.1)), value-decimal h (omega (arith, sizes.high.1)), value-decimal p (omega (arith, sizes.links)), few, labels) refl)

  pub read_cube : (d p : ℕ) → plan.shape ≡ Cube d p → IsCube d p → IsFilled (cube d) p plan → (n : ℕ) → plan_of_draft (read_lines_of_words n (cube_words d p ∷ lines_after_network plan) (draft_with false None begun)) ≡ Ok plan
  read_cube d p is_shape sizes is n =
      let low = number-decimal 0 6 d (omega arith) sizes.low (omega (arith, sizes.low)) in
      let some = number-decimal 1 26 p (omega (arith, sizes.some)) sizes.links (omega (arith, sizes.links)) in
      let labels : nat_lt 256 (2 ^ d * p) ≡ false = grind (arith, nat_tests, sizes.labels) in
      read_filled (Cube d p) (cube d) p is_shape is n (cube_words d p) (rw (low, some, value-decimal d (omega (arith, sizes.low)), value-decimal p (omega (arith, sizes.links)), labels) refl)
