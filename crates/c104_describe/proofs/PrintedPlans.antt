-- What is printed of a plan is read back as that plan.
use Rattle.c104_describe.proofs.{PrintedByHand.read_by_hand, PrintedFills.{read_cube, read_mesh}, PrintedNumbers.number-decimal}
use Rattle.c104_describe.proofs.{PrintedNumbers.{read_number-decimal, value-decimal}, PrintedParts.{lines_after_network, lines_by_kinds}}
use Rattle.c104_describe.proofs.{PrintedParts.plan_lines-by_kinds, PrintedSteps.draft_with, PrintedText.{lines_of, read_lines_of_words}}
use Rattle.c104_describe.proofs.{PrintedText.read_sentences, PrintedTrees.{read_tree, read_up_down}, PrintedWords.small_buffer}
use Rattle.c104_describe.{proofs.PrintedWords.words_plan, specs.{LineFaults.read_plan_words, PlanFaults.fault_at, PlanPrint.buffer_words}}
use Rattle.c104_describe.specs.{PlanPrint.{header_words, network_lines, own_text, text_of}, PlanText.{empty_draft, plan_of_draft}}
use Rattle.c104_describe.specs.{PlanText.{read_description, read_plan_lines}, SharedTables.nothing_shared}
use Rattle.{c104_describe.specs.declared.faults.PlanFaultKind.TheVariants.TooLong, c104_plan.specs.{PlanParts.empty_plan, Plans.IsOfShape}}
use Rattle.c104_plan.specs.{Plans.{IsPlan, Plan}, TextCut.{lines, most_bytes}, declared.plans.Shape.{Shape, TheVariants.{Cube, Hand, Mesh}}}
use Rattle.{c104_plan.specs.declared.plans.Shape.TheVariants.{Tree, UpDown}, std.proofs.Common.{Err, List, None, Ok, ap, arith, false}}
use Rattle.std.proofs.{Common.{if◌then◌else◌, length, nat_le, subst, true, ℕ, ◌++◌, ◌∙◌, ◌≡◌, ◌≤◌}, lemmas.Bool.Decides.nat_tests}

module _ (plan : Plan) (kept : IsPlan plan) where
  header_read : read_plan_words empty_draft true (header_words plan.header) ≡ Ok (record { plan = record empty_plan { header = plan.header }; shared = nothing_shared; header_said = true; buffer_said = false; from_said = false; labels = None })
  header_read = search (arith, number-decimal, value-decimal)

  buffer_read : read_plan_words (record { plan = record empty_plan { header = plan.header }; shared = nothing_shared; header_said = true; buffer_said = false; from_said = false; labels = None }) true (buffer_words plan.cap) ≡ Ok (draft_with false None (record empty_plan { header = plan.header; cap = plan.cap }))
  buffer_read = search (arith, read_number-decimal, small_buffer)

  -- the network, by the plan's shape, and what is behind it
  network_read : (shape : Shape) → plan.shape ≡ shape → IsOfShape shape plan → plan_of_draft (read_lines_of_words 3 (network_lines plan shape ++ lines_after_network plan) (draft_with false None (record empty_plan { header = plan.header; cap = plan.cap }))) ≡ Ok plan
  network_read Hand is_shape is = read_by_hand plan kept is_shape 3
  network_read (Tree root) is_shape is = read_tree plan kept root is_shape is 3
  network_read (UpDown root) is_shape is = read_up_down plan kept root is_shape is 3
  network_read (Mesh w h p) is_shape is = read_mesh plan kept w h p is_shape is.0 is.1 3
  network_read (Cube d p) is_shape is = read_cube plan kept d p is_shape is.0 is.1 3

  lines_read : plan_of_draft (read_lines_of_words 1 (lines_by_kinds plan) empty_draft) ≡ Ok plan
  lines_read = search (arith, header_read, buffer_read, network_read)

  pub own_back : length (own_text plan) ≤ most_bytes → read_description (own_text plan) ≡ Ok plan
  own_back short =
      let text : List ℕ = text_of (lines_by_kinds plan) in
      let same : own_text plan ≡ text = ap text_of (plan_lines-by_kinds plan) in
      let fits : nat_le (length text) most_bytes ≡ true = let shorter : length text ≤ most_bytes = subst (λ t. length t ≤ most_bytes) same short in grind (arith, nat_tests) in
      ap read_description same
      ∙ (λ i. if fits i then plan_of_draft (read_plan_lines 1 (lines text) empty_draft) else Err (fault_at 0 TooLong))
      ∙ ap (λ list. plan_of_draft (read_plan_lines 1 list empty_draft)) (lines_of (lines_by_kinds plan) (words_plan plan kept))
      ∙ ap plan_of_draft (read_sentences 1 (lines_by_kinds plan) empty_draft (words_plan plan kept))
      ∙ lines_read
