-- The rows of a header, link by link.
use Rattle.c104_check.{proofs.StartLemmas.get_back, specs.{Parts.{IsNeverRefused, TellsFirst}, Routes.{Routes, port_at, routes_of}}}
use Rattle.{c104_check.specs.declared.faults.CheckFault.CheckFault, c104_commands.specs.HeaderRows.{AreRowsOf, IsHeaderRow, IsTableOf}}
use Rattle.c104_commands.specs.{HeaderRows.{PrintsHeader, fault_line, is_met_by}, declared.header_rows.HeaderRow.HeaderRow}
use Rattle.{c104_plan.specs.{PlanImage.Image, Plans.Plan}, std.proofs.Common.{List, MatchOption, Option, Some, [], ap, filter, inl, inr}}
use Rattle.std.proofs.Common.{is_some, length, length-append, refl, slice_get, subst, sym, ℕ, ◌++◌, ◌+◌, ◌<◌, ◌∙◌, ◌∷◌, ◌≡◌, ◌⊎◌}
use Rattle.std.proofs.lemmas.List.Elements.{filter-append}

-- none yet
pub no_rows : (routes : Routes) (h : ℕ) → AreRowsOf routes h 0 []
no_rows routes h = ([], record { each = refl; right = λ k row at. absurd cc }, refl)

-- one link further
pub rows_next : (routes : Routes) (h k : ℕ) (rows new : List HeaderRow) (row : HeaderRow) → AreRowsOf routes h k rows → row.port ≡ port_at k → IsHeaderRow routes h row → new ≡ rows ++ filter is_met_by (row ∷ []) → AreRowsOf routes h (k + 1) new
rows_next routes h k rows new row are port right pushed = (
  are.0 ++ row ∷ [],
  record {
    each = length-append are.0 (row ∷ []) ∙ ap (λ n. n + 1) are.1.each;
    right = λ j other at. by j other (get_back are.0 row j other at);
  },
  pushed ∙ ap (λ xs. xs ++ filter is_met_by (row ∷ [])) are.2 ∙ sym (filter-append is_met_by are.0 (row ∷ [])),
)
  where
    by : (j : ℕ) (other : HeaderRow) → ((j < length are.0) × (slice_get are.0 j ≡ Some other)) ⊎ ((j ≡ length are.0) × (row ≡ other)) → (other.port ≡ port_at j) × IsHeaderRow routes h other
    by j other (inl old) = are.1.right j other old.1
    by j other (inr last) = subst (λ (r : HeaderRow). (r.port ≡ port_at j) × IsHeaderRow routes h r) last.1 (port ∙ ap port_at (sym (last.0 ∙ are.1.each)), right)

-- what is printed of a table and a fault
pub header_printed : (h : ℕ) (plan : Plan) (image : Image) (routes : Routes) (before text : List ℕ) (why : Option CheckFault) → routes ≡ routes_of plan image → IsTableOf plan routes h before → MatchOption why (IsNeverRefused routes h) (TellsFirst routes h) → text ≡ before ++ fault_line plan why → PrintsHeader h plan image text (is_some why)
header_printed h plan image routes before text why same table cause is =
    subst (λ (r : Routes). IsTableOf plan r h before → MatchOption why (IsNeverRefused r h) (TellsFirst r h) → PrintsHeader h plan image text (is_some why)) (sym same)
    (λ made told. record {
      rows = made.0;
      are = made.1;
      why = why;
      cause = told;
      is = is ∙ ap (λ xs. xs ++ fault_line plan why) made.2;
      refuses = refl;
    })
    table cause
