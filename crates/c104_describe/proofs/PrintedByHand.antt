-- What is printed of a network that is made line by line is read back.
use Rattle.c104_describe.proofs.PrintedParts.{lines_after_bases, lines_after_continues, lines_after_deletes, lines_after_network}
use Rattle.c104_describe.proofs.{PrintedParts.lines_after_rows, PrintedSteps.{base_step, continue_step, delete_step, draft_by_hand}}
use Rattle.c104_describe.proofs.PrintedSteps.{draft_with, random_step, row_step, switch_step, terminal_step, wire_step, with_bases}
use Rattle.c104_describe.proofs.PrintedSteps.{with_continues, with_deletes, with_randoms, with_rows, with_switches, with_terminals}
use Rattle.c104_describe.{proofs.{PrintedSteps.with_wires, PrintedText.{read_kind, read_lines_of_words}}, specs.PlanDrafts.is_by_hand}
use Rattle.c104_describe.specs.PlanPrint.{base_words, continue_words, delete_words, network_lines, random_words, row_words, switch_words}
use Rattle.{c104_describe.specs.{PlanPrint.{terminal_words, wire_words}, PlanText.plan_of_draft}, c104_plan.specs.PlanParts.empty_plan}
use Rattle.{c104_plan.specs.{PlanParts.has_some, Plans.{IsPlan, Plan}, declared.plans.Shape.TheVariants.Hand}, std.proofs.Common.{None, Ok}}
use Rattle.std.proofs.Common.{[], ap, append-nil, append_assoc, arith, false, length, map, refl, sym, true, ℕ, ◌++◌, ◌+◌, ◌∙◌, ◌≡◌}

module _ (plan : Plan) (kept : IsPlan plan) (shape : plan.shape ≡ Hand) where
  hand : is_by_hand plan.shape ≡ true
  hand = ap is_by_hand shape

  -- from the line of number n on: a kind's lines begin where those of the kind before end
  lists_read : (n : ℕ) → plan_of_draft (read_lines_of_words n
      (map switch_words plan.switches ++ (map (terminal_words plan) plan.terminals ++ (map (wire_words plan) plan.wires ++ lines_after_network plan)))
      (draft_with false None (with_switches plan kept []))) ≡ Ok plan
  lists_read n =
      let said = has_some plan.terminals in
      let at_terminals : ℕ = length plan.switches + n in
      let at_wires : ℕ = length plan.terminals + at_terminals in
      let at_continues : ℕ = length plan.wires + at_wires in
      let at_deletes : ℕ = length plan.continues + at_continues in
      let at_bases : ℕ = length plan.deletes + at_deletes in
      let at_rows : ℕ = length plan.bases + at_bases in
      let at_randoms : ℕ = length plan.rows + at_rows in
      ap plan_of_draft (
      read_kind switch_words (λ done. draft_with false None (with_switches plan kept done)) plan.switches (switch_step plan kept hand) n [] plan.switches (map (terminal_words plan) plan.terminals ++ (map (wire_words plan) plan.wires ++ lines_after_network plan)) refl
      ∙ read_kind (terminal_words plan) (λ done. draft_by_hand done (with_terminals plan kept done)) plan.terminals (λ done t more is. terminal_step plan kept done t more is hand) at_terminals [] plan.terminals (map (wire_words plan) plan.wires ++ lines_after_network plan) refl
      ∙ read_kind (wire_words plan) (λ done. draft_with said None (with_wires plan kept done)) plan.wires (wire_step plan kept said hand) at_wires [] plan.wires (lines_after_network plan) refl
      ∙ read_kind (continue_words plan) (λ done. draft_with said None (with_continues plan kept done)) plan.continues (continue_step plan kept said None refl hand) at_continues [] plan.continues (lines_after_continues plan) refl
      ∙ read_kind (delete_words plan) (λ done. draft_with said None (with_deletes plan kept done)) plan.deletes (delete_step plan kept said None) at_deletes [] plan.deletes (lines_after_deletes plan) refl
      ∙ read_kind (base_words plan) (λ done. draft_with said None (with_bases plan kept done)) plan.bases (base_step plan kept said hand) at_bases [] plan.bases (lines_after_bases plan) refl
      ∙ read_kind (row_words plan) (λ done. draft_with said None (with_rows plan kept done)) plan.rows (row_step plan kept said hand) at_rows [] plan.rows (lines_after_rows plan) refl
      ∙ ap (λ last. read_lines_of_words at_randoms last (draft_with said None (with_randoms plan kept []))) (sym (append-nil (map (random_words plan) plan.randoms)))
      ∙ read_kind (random_words plan) (λ done. draft_with said None (with_randoms plan kept done)) plan.randoms (random_step plan kept said hand) at_randoms [] plan.randoms [] refl)

  pub read_by_hand : (n : ℕ) → plan_of_draft (read_lines_of_words n (network_lines plan Hand ++ lines_after_network plan) (draft_with false None (record empty_plan { header = plan.header; cap = plan.cap }))) ≡ Ok plan
  read_by_hand n = search (arith, append_assoc, lists_read)
