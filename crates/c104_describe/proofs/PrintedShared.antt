-- What is printed of a plan is read back as that plan, with tables of switches and without.
use Rattle.c104_describe.{proofs.{DraftsKept.{empty-kept, read_lines-kept}, PrintedPlans.own_back}, specs.PlanDrafts.{Draft, finished}}
use Rattle.c104_describe.specs.{PlanFaults.{PlanFault, fault_at}, PlanPrint.{has_shared_tables, has_text, own_text, plan_text, shared_text}}
use Rattle.c104_describe.specs.PlanText.{empty_draft, plan_of_draft, read_description, read_plan_lines}
use Rattle.{c104_describe.specs.declared.faults.PlanFaultKind.TheVariants.TooLong, c104_plan.specs.{PlanParts.has_some, Plans.IsPlan}}
use Rattle.{c104_plan.specs.{Plans.Plan, TextCut.{lines, most_bytes}}, std.proofs.Common.{Bool, Err, List, Ok, Result, ap, arith, bytes_eq}}
use Rattle.std.proofs.{Common.{false, if◌then◌else◌, length, nat_le, refl, subst, sym, true, ℕ, ◌&&◌, ◌∙◌, ◌≡◌, ◌≤◌}, lemmas.Bool.and_parts}
use Rattle.std.proofs.lemmas.{Bool.leb-true, Slice.Eq.bytes_eq-Decides}

-- a description that is read gives a plan
of_draft : (read : Result Draft PlanFault) (plan : Plan) → ((last : Draft) → read ≡ Ok last → IsPlan (finished last)) → plan_of_draft read ≡ Ok plan → IsPlan plan
of_draft read plan kept is = search arith

read_is_plan : (text : List ℕ) (plan : Plan) → read_description text ≡ Ok plan → IsPlan plan
read_is_plan text plan is = by_length (nat_le (length text) most_bytes) is
  where
    by_length : (b : Bool) → (if b then plan_of_draft (read_plan_lines 1 (lines text) empty_draft) else Err (fault_at 0 TooLong)) ≡ Ok plan → IsPlan plan
    by_length true is = of_draft (read_plan_lines 1 (lines text) empty_draft) plan (λ last read. read_lines-kept 1 (lines text) empty_draft last empty-kept read) is
    by_length false is = absurd (cc is)

module _ (plan : Plan) (kept : IsPlan plan) where
  -- plans of one text are the same
  same_plan : (other : Plan) → IsPlan other → own_text other ≡ own_text plan → length (own_text plan) ≤ most_bytes → other ≡ plan
  same_plan other is same short =
      let again : Ok other ≡ Ok plan = sym (own_back other is (subst (λ t. length t ≤ most_bytes) (sym same) short)) ∙ ap read_description same ∙ own_back plan kept short in
      cc

  by_read : (read : Result Plan PlanFault) → read_description (shared_text plan) ≡ read → has_text (own_text plan) read ≡ true → length (own_text plan) ≤ most_bytes → read ≡ Ok plan
  by_read (Ok other) is same short = ap Ok (same_plan other (read_is_plan (shared_text plan) other is) ((bytes_eq-Decides (own_text other) (own_text plan)).0 same) short)
  by_read (Err fault) is same short = absurd (cc same)

  shared_back : has_shared_tables plan ≡ true → read_description (shared_text plan) ≡ Ok plan
  unfolding has_shared_tables
  shared_back has =
      let parts = and_parts (has_some plan.rows && nat_le (length (own_text plan)) most_bytes) (has_text (own_text plan) (read_description (shared_text plan))) has in
      let short = leb-true _ _ (and_parts (has_some plan.rows) (nat_le (length (own_text plan)) most_bytes) parts.0).1 in
      by_read (read_description (shared_text plan)) refl parts.1 short

  back_by : (has : Bool) → has_shared_tables plan ≡ has → length (if has then shared_text plan else own_text plan) ≤ most_bytes → read_description (if has then shared_text plan else own_text plan) ≡ Ok plan
  back_by true is short = shared_back is
  back_by false is short = own_back plan kept short

  pub read_back : length (plan_text plan) ≤ most_bytes → read_description (plan_text plan) ≡ Ok plan
  read_back short = back_by (has_shared_tables plan) refl short
