-- Behind a network with nothing but groups set at links come these and deletes alone, and deletes are read back.
use Rattle.c104_describe.proofs.{PrintedParts.{lines_after_continues, lines_after_network}, PrintedSteps.{delete_step, draft_with}}
use Rattle.c104_describe.{proofs.{PrintedSteps.with_deletes, PrintedText.{read_kind, read_lines_of_words}}, specs.PlanPrint.base_words}
use Rattle.{c104_describe.specs.PlanPrint.{continue_words, delete_words, random_words, row_words}, c104_plan.specs.Plans.HasGroupsAlone}
use Rattle.{c104_plan.specs.{Plans.{IsPlan, IsUnset, Plan}, declared.plans.Shape.Shape}, std.proofs.Common.{Bool, Ok, Option, [], ap, map}}
use Rattle.std.proofs.Common.{refl, sym, ℕ, ◌++◌, ◌∙◌, ◌≡◌}

-- groups are, where nothing is
pub groups_alone : (plan : Plan) → IsUnset plan → HasGroupsAlone plan
groups_alone plan unset = record { bases = unset.bases; rows = unset.rows; randoms = unset.randoms }

module _ (plan : Plan) (kept : IsPlan plan) (unset : HasGroupsAlone plan) where
  pub deletes_behind : lines_after_continues plan ≡ map (delete_words plan) plan.deletes ++ []
  deletes_behind = λ i. map (delete_words plan) plan.deletes ++ (map (base_words plan) (unset.bases i) ++ (map (row_words plan) (unset.rows i) ++ map (random_words plan) (unset.randoms i)))

  pub deletes_alone : plan.continues ≡ [] → lines_after_network plan ≡ map (delete_words plan) plan.deletes ++ []
  deletes_alone none = (λ i. map (continue_words plan) (none i) ++ lines_after_continues plan) ∙ deletes_behind

  whole : with_deletes plan kept plan.deletes ≡ plan
  whole = λ i. record plan { bases = sym unset.bases i; rows = sym unset.rows i; randoms = sym unset.randoms i }

  pub deletes_read : (n : ℕ) (said : Bool) (labels : Option Shape) → read_lines_of_words n (map (delete_words plan) plan.deletes ++ []) (draft_with said labels (with_deletes plan kept [])) ≡ Ok (draft_with said labels plan)
  deletes_read n said labels =
      read_kind (delete_words plan) (λ done. draft_with said labels (with_deletes plan kept done)) plan.deletes (delete_step plan kept said labels) n [] plan.deletes [] refl
      ∙ ap (λ p. Ok (draft_with said labels p)) whole
