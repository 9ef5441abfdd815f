-- A plan's text is the header length and the buffer size, and then one kind after the other.
use Rattle.c104_describe.specs.PlanPrint.{base_words, buffer_words, continue_words, delete_words, first_input, header_words, network_lines}
use Rattle.c104_describe.specs.PlanPrint.{own_text, plan_lines, random_words, row_words, shared_lines, shared_text, table_lines}
use Rattle.{c104_describe.specs.PlanPrint.{tables_lines, text_of}, c104_plan.specs.Plans.Plan, std.proofs.Common.{List, [], add-one, ap}}
use Rattle.std.proofs.Common.{append_assoc, arith, length, map, refl, sym, ℕ, ◌++◌, ◌+◌, ◌∙◌, ◌∷◌, ◌≡◌}

-- The lines of a plan behind those of one kind, told from the last kind on

-- behind the rows: the random headers
abbrev pub lines_after_rows : Plan → List (List (List ℕ))
lines_after_rows plan = map (random_words plan) plan.randoms

-- behind the bases: the rows and what is behind these
abbrev pub lines_after_bases : Plan → List (List (List ℕ))
lines_after_bases plan = map (row_words plan) plan.rows ++ lines_after_rows plan

-- behind the deletes: the bases and what is behind these
abbrev pub lines_after_deletes : Plan → List (List (List ℕ))
lines_after_deletes plan = map (base_words plan) plan.bases ++ lines_after_bases plan

-- behind the continues
abbrev pub lines_after_continues : Plan → List (List (List ℕ))
lines_after_continues plan = map (delete_words plan) plan.deletes ++ lines_after_deletes plan

-- behind the network
abbrev pub lines_after_network : Plan → List (List (List ℕ))
lines_after_network plan = map (continue_words plan) plan.continues ++ lines_after_continues plan

-- behind the buffer size
abbrev pub lines_after_buffer : Plan → List (List (List ℕ))
lines_after_buffer plan = network_lines plan plan.shape ++ lines_after_network plan

-- all lines
abbrev pub lines_by_kinds : Plan → List (List (List ℕ))
lines_by_kinds plan = header_words plan.header ∷ buffer_words plan.cap ∷ lines_after_buffer plan

pub plan_lines-by_kinds : (plan : Plan) → plan_lines plan ≡ lines_by_kinds plan
plan_lines-by_kinds plan = search (arith, append_assoc)

text_of-append : (xs ys : List (List (List ℕ))) → text_of (xs ++ ys) ≡ text_of xs ++ text_of ys
text_of-append [] ys = refl
text_of-append (ws ∷ xs) ys = search (arith, append_assoc, text_of-append xs ys)

-- a text with these lines behind it, and with more lines behind these
joined : (text next : List ℕ) (lines rest : List (List (List ℕ))) → next ≡ text ++ text_of lines → next ++ text_of rest ≡ text ++ text_of (lines ++ rest)
joined text next lines rest is = search (arith, append_assoc, text_of-append)

-- two kinds of lines, one after the other
pub both_kinds : (text next last : List ℕ) (xs ys : List (List (List ℕ))) → next ≡ text ++ text_of xs → last ≡ next ++ text_of ys → last ≡ text ++ text_of (xs ++ ys)
both_kinds text next last xs ys first second = second ∙ joined text next xs ys first

-- the lines of one more switch
pub tables_next : (plan : Plan) (s : ℕ) (text next last : List ℕ) → next ≡ text ++ text_of (tables_lines plan s)
    → last ≡ next ++ text_of (table_lines plan s (first_input s plan.rows)) → last ≡ text ++ text_of (tables_lines plan (s + 1))
tables_next plan s text next last first second = rw (add-one) (both_kinds text next last (tables_lines plan s) (table_lines plan s (first_input s plan.rows)) first second)

-- the lines behind those of the header length and the buffer size, but for those of tables
pub others_are_text : (plan : Plan) (begun network continues deletes randoms : List ℕ) → begun ≡ text_of (header_words plan.header ∷ buffer_words plan.cap ∷ [])
    → network ≡ begun ++ text_of (network_lines plan plan.shape)
    → continues ≡ network ++ text_of (map (continue_words plan) plan.continues)
    → deletes ≡ continues ++ text_of (map (delete_words plan) plan.deletes)
    → randoms ≡ deletes ++ text_of (map (random_words plan) plan.randoms)
    → randoms ≡ text_of (shared_lines plan)
others_are_text plan begun network continues deletes randoms is_begun with_network with_continues with_deletes with_randoms =
    let first = header_words plan.header ∷ buffer_words plan.cap ∷ [] in
    let second = first ++ network_lines plan plan.shape in
    let third = second ++ map (continue_words plan) plan.continues in
    let fourth = third ++ map (delete_words plan) plan.deletes in
    both_kinds [] deletes randoms fourth (map (random_words plan) plan.randoms)
    (both_kinds [] continues deletes third (map (delete_words plan) plan.deletes)
    (both_kinds [] network continues second (map (continue_words plan) plan.continues)
    (both_kinds [] begun network first (network_lines plan plan.shape) is_begun with_network)
    with_continues)
    with_deletes)
    with_randoms

-- all lines with the tables of switches
pub with_tables : (plan : Plan) (others all : List ℕ) → others ≡ text_of (shared_lines plan) → all ≡ others ++ text_of (tables_lines plan (length plan.switches)) → all ≡ shared_text plan
with_tables plan others all is more = both_kinds [] others all (shared_lines plan) (tables_lines plan (length plan.switches)) is more

module _ (plan : Plan) (begun network continues deletes bases rows randoms : List ℕ) where
  pub parts_are_text : begun ≡ text_of (header_words plan.header ∷ buffer_words plan.cap ∷ [])
      → network ≡ begun ++ text_of (network_lines plan plan.shape)
      → continues ≡ network ++ text_of (map (continue_words plan) plan.continues)
      → deletes ≡ continues ++ text_of (map (delete_words plan) plan.deletes)
      → bases ≡ deletes ++ text_of (map (base_words plan) plan.bases)
      → rows ≡ bases ++ text_of (map (row_words plan) plan.rows)
      → randoms ≡ rows ++ text_of (map (random_words plan) plan.randoms)
      → randoms ≡ own_text plan
  parts_are_text is_begun with_network with_continues with_deletes with_bases with_rows with_randoms =
      with_randoms
      ∙ joined bases rows (map (row_words plan) plan.rows) (lines_after_rows plan) with_rows
      ∙ joined deletes bases (map (base_words plan) plan.bases) (lines_after_bases plan) with_bases
      ∙ joined continues deletes (map (delete_words plan) plan.deletes) (lines_after_deletes plan) with_deletes
      ∙ joined network continues (map (continue_words plan) plan.continues) (lines_after_continues plan) with_continues
      ∙ joined begun network (network_lines plan plan.shape) (lines_after_network plan) with_network
      ∙ joined [] begun (header_words plan.header ∷ buffer_words plan.cap ∷ []) (lines_after_buffer plan) is_begun
      ∙ ap text_of (sym (plan_lines-by_kinds plan))
