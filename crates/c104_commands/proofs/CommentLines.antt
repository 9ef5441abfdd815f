-- A comment before a description changes nothing of the plan that it gives.
use Rattle.{c104_commands.specs.ShapeLines.{IsTaken, shape_line, shape_words}, c104_describe.specs.LineFaults.read_plan_line}
use Rattle.c104_describe.specs.{PlanDrafts.finished, PlanLines.Draft, PlanPrint.{plan_text, sentence}, PlanText.draft_after_line}
use Rattle.c104_describe.specs.PlanText.{empty_draft, plan_of_draft, read_description, read_plan_lines}
use Rattle.c104_describe.specs.declared.faults.{PlanFault.PlanFault, PlanFaultKind.PlanFaultKind}
use Rattle.c104_plan.{proofs.TextBytes.list_all-weaker, specs.{Plans.{IsOfShape, IsPlan, Plan}, PortTexts.switch_name, TextCut.lines}}
use Rattle.c104_plan.specs.{TextCut.most_bytes, TextWords.{is_digit, is_letter, is_name, is_name_byte, most_name_bytes}}
use Rattle.{c104_plan.specs.declared.plans.Shape.{Shape, TheVariants.{Cube, Hand, Mesh, Tree, UpDown}}, std.proofs.Common.{All, Bool, Err}}
use Rattle.std.proofs.Common.{List, None, Ok, Option, Result, Some, [], ap, append_assoc, arith, false, fold, get_or, inl, inr, length}
use Rattle.std.proofs.Common.{length-append, nat_le, nat_lt, not, refl, rules, slice_get, subst, sym, true, ℕ, ◌&&◌, ◌*◌, ◌++◌, ◌+◌, ◌-◌}
use Rattle.std.proofs.{Common.{◌<◌, ◌==◌, ◌∙◌, ◌∷◌, ◌≡◌, ◌≤◌, ◌⊎◌}, lemmas.{Bool.{Decides.nat_tests, and_parts}, Fmt.digits_decimal}}
use Rattle.std.proofs.lemmas.List.{Elements.{All-cons, All-nil}, Folds.list_all-append, Splits.slice_split_at, get_or_append_left}
use Rattle.std.{proofs.lemmas.{Option.slice_get_cases, Str.Parse.{IsNumeralModel, numerals_by_fold}}, specs.{Fmt.decimal, List.list_all}}
use Rattle.std.specs.Option.{unwrap_or}

-- A line that begins as a comment does, and ends there

abbrev pub IsComment : List ℕ → Type 0
IsComment line = (body : List ℕ) × (line ≡ 0x23 ∷ (body ++ 0x0a ∷ [])) × All (λ byte. (byte == 0x0a) ≡ false) body

-- the number of a line stands in its fault alone
step : (m n : ℕ) (more : List (List ℕ)) (after : Draft) (read : Result Draft PlanFaultKind) → ((next : Draft) → read_plan_lines (m + 1) more next ≡ Ok after → read_plan_lines (n + 1) more next ≡ Ok after) → draft_after_line m read (λ next. read_plan_lines (m + 1) more next) ≡ Ok after → draft_after_line n read (λ next. read_plan_lines (n + 1) more next) ≡ Ok after
step m n more after (Ok next) rest is = rest next is
step m n more after (Err kind) rest is = absurd cc

renumbered : (m n : ℕ) (all : List (List ℕ)) (draft after : Draft) → read_plan_lines m all draft ≡ Ok after → read_plan_lines n all draft ≡ Ok after
renumbered m n [] draft after is = is
renumbered m n (line ∷ more) draft after is = step m n more after (read_plan_line draft line) (λ next. renumbered (m + 1) (n + 1) more next after) is

comment_read : (body : List ℕ) → read_plan_line empty_draft (0x23 ∷ body) ≡ Ok empty_draft
comment_read body = refl

draft_given : (read : Result Draft PlanFault) (plan : Plan) → plan_of_draft read ≡ Ok plan → (draft : Draft) × (read ≡ Ok draft) × (finished draft ≡ plan)
draft_given (Ok draft) plan is = (draft, refl, cc)
draft_given (Err fault) plan is = absurd cc

lines_of_comment : (body rest : List ℕ) → All (λ byte. (byte == 0x0a) ≡ false) body → lines ((0x23 ∷ (body ++ 0x0a ∷ [])) ++ rest) ≡ (0x23 ∷ body) ∷ lines rest
lines_of_comment body rest free =
    ap (λ xs. lines (0x23 ∷ xs)) (append_assoc body (0x0a ∷ []) rest)
    ∙ slice_split_at (λ byte. byte == 0x0a) (0x23 ∷ body) 0x0a rest (All-cons (λ byte. (byte == 0x0a) ≡ false) 0x23 body refl free) refl

short_is : (text : List ℕ) → length text ≤ most_bytes → read_description text ≡ plan_of_draft (read_plan_lines 1 (lines text) empty_draft)
short_is text short =
    let is : nat_le (length text) most_bytes ≡ true = grind (arith, nat_tests) in
    rw is refl

-- a description behind it gives the same plan
pub commented : (line rest : List ℕ) (plan : Plan) → IsComment line → length (line ++ rest) ≤ most_bytes → read_description rest ≡ Ok plan → read_description (line ++ rest) ≡ Ok plan
commented line rest plan is short read =
    let count = length-append line rest in
    let own : plan_of_draft (read_plan_lines 1 (lines rest) empty_draft) ≡ Ok plan = sym (short_is rest (omega (arith, short, count))) ∙ read in
    let draft = draft_given (read_plan_lines 1 (lines rest) empty_draft) plan own in
    let cut : lines (line ++ rest) ≡ (0x23 ∷ is.0) ∷ lines rest = ap (λ xs. lines (xs ++ rest)) is.1 ∙ lines_of_comment is.0 rest is.2 in
    short_is (line ++ rest) short
    ∙ ap (λ all. plan_of_draft (read_plan_lines 1 all empty_draft)) cut
    ∙ ap (λ after. plan_of_draft (draft_after_line 1 after (λ next. read_plan_lines 2 (lines rest) next))) (comment_read is.0)
    ∙ ap plan_of_draft (renumbered 1 2 (lines rest) empty_draft draft.0 draft.1)
    ∙ ap Ok draft.2

-- The line of a shape

abbrev is_free : List ℕ → Bool
is_free word = list_all (λ byte. not (byte == 0x0a)) word

-- a byte that passes a test at which a line feed fails
no_feed : (test : ℕ → Bool) → test 0x0a ≡ false → (byte : ℕ) → test byte ≡ true → not (byte == 0x0a) ≡ true
no_feed test off byte on = by (byte == 0x0a) refl
  where
    by : (b : Bool) → (byte == 0x0a) ≡ b → not b ≡ true
    by true is =
        let same : byte ≡ 0x0a = grind (arith, nat_tests) in
        let clash : true ≡ false = sym on ∙ (ap test same ∙ off) in absurd cc
    by false is = refl

abbrev are_digits : List ℕ → Type 0
are_digits ds = list_all is_digit ds ≡ true

numerals : IsNumeralModel are_digits (λ ds. fold (λ value digit. 10 * value + (digit - 48)) 0 ds)
numerals = numerals_by_fold are_digits (search rules) (λ n ds. fold (λ value digit. 10 * value + (digit - 48)) n ds) (search rules)

decimal_free : (n : ℕ) → n ≤ 256 → is_free (decimal n) ≡ true
decimal_free n small =
    list_all-weaker is_digit (λ byte. not (byte == 0x0a)) (no_feed is_digit refl) (decimal n) (digits_decimal numerals n (omega (arith, small)))

name_free : (name : List ℕ) → is_name name ≡ true → is_free name ≡ true
name_free [] named = refl
name_free (first ∷ rest) named =
    let parts = and_parts (is_letter first) (nat_lt (length rest) most_name_bytes && list_all is_name_byte rest) named in
    let others = and_parts (nat_lt (length rest) most_name_bytes) (list_all is_name_byte rest) parts.1 in
    λ i. no_feed is_letter refl first parts.0 i && list_all-weaker is_name_byte (λ byte. not (byte == 0x0a)) (no_feed is_name_byte refl) rest others.1 i

sentence_free : (words : List (List ℕ)) → list_all is_free words ≡ true → is_free (sentence words) ≡ true
sentence_free [] all = refl
sentence_free (word ∷ []) all = (and_parts (is_free word) true all).0
sentence_free (word ∷ next ∷ more) all =
    let parts = and_parts (is_free word) (list_all is_free (next ∷ more)) all in
    list_all-append (λ byte. not (byte == 0x0a)) word (0x20 ∷ sentence (next ∷ more)) ∙ (λ i. parts.0 i && sentence_free (next ∷ more) parts.1 i)

none_feeds : (body : List ℕ) → is_free body ≡ true → All (λ byte. (byte == 0x0a) ≡ false) body
none_feeds [] free = All-nil (λ byte. (byte == 0x0a) ≡ false)
none_feeds (byte ∷ body) free =
    let parts = and_parts (not (byte == 0x0a)) (is_free body) free in
    All-cons (λ byte. (byte == 0x0a) ≡ false) byte body (not_true (byte == 0x0a) parts.0) (none_feeds body parts.1)
  where
    not_true : (b : Bool) → not b ≡ true → b ≡ false
    not_true true is = absurd cc
    not_true false is = refl

module _ (plan : Plan) (kept : IsPlan plan) where
  named : All (λ name. is_name name ≡ true) plan.switches
  named = search (arith, get_or_append_left, length-append)

  switch_free : (root : ℕ) → is_free (switch_name plan root) ≡ true
  switch_free root = by (slice_get_cases plan.switches root).1
    where
      by : ((name : List ℕ) × (root < length plan.switches) × (slice_get plan.switches root ≡ Some name) × (get_or plan.switches root name ≡ name)) ⊎ ((length plan.switches ≤ root) × (slice_get plan.switches root ≡ None)) → is_free (switch_name plan root) ≡ true
      by (inl there) = ap (λ found. is_free (unwrap_or found [])) there.2 ∙ name_free there.0 (subst (λ name. is_name name ≡ true) there.3 (named root there.0 there.1))
      by (inr past) = ap (λ found. is_free (unwrap_or found [])) past.1

  words_free : (shape taken : Shape) → IsOfShape shape plan → IsTaken shape taken → list_all is_free (shape_words plan taken) ≡ true
  words_free Hand taken is same = ap (λ s. list_all is_free (shape_words plan s)) same
  words_free (Tree root) taken is same = ap (λ s. list_all is_free (shape_words plan s)) same ∙ (λ i. switch_free root i && true)
  words_free (UpDown named) taken is same = ap (λ s. list_all is_free (shape_words plan s)) same.1 ∙ by same.0
    where
      by : (root : Option ℕ) → list_all is_free (shape_words plan (UpDown root)) ≡ true
      by None = refl
      by (Some root) = λ i. switch_free root i && true
  words_free (Mesh w h p) taken is same =
      ap (λ s. list_all is_free (shape_words plan s)) same
      ∙ (λ i. decimal_free w (omega (arith, is.0.wide.1)) i && (decimal_free h (omega (arith, is.0.high.1)) i && (decimal_free p (omega (arith, is.0.links)) i && true)))
  words_free (Cube d p) taken is same =
      ap (λ s. list_all is_free (shape_words plan s)) same
      ∙ (λ i. decimal_free d (omega (arith, is.0.low)) i && (decimal_free p (omega (arith, is.0.links)) i && true))

  pub shape_comment : (taken : Shape) → IsTaken plan.shape taken → IsComment (shape_line plan taken)
  shape_comment taken is =
      (0x20 ∷ sentence (shape_words plan taken), refl, none_feeds (0x20 ∷ sentence (shape_words plan taken)) (sentence_free (shape_words plan taken) (words_free plan.shape taken kept.shape is)))

-- a description behind the line of a shape is read back
pub shaped_read : (plan rows : Plan) (taken : Shape) (text : List ℕ) → IsPlan plan → IsTaken plan.shape taken → text ≡ shape_line plan taken ++ plan_text rows → (length (plan_text rows) ≤ most_bytes → read_description (plan_text rows) ≡ Ok rows) → length text ≤ most_bytes → read_description text ≡ Ok rows
shaped_read plan rows taken text kept is made back short =
    let whole : length (shape_line plan taken ++ plan_text rows) ≤ most_bytes = subst (λ xs. length xs ≤ most_bytes) made short in
    let count = length-append (shape_line plan taken) (plan_text rows) in
    ap read_description made ∙ commented (shape_line plan taken) (plan_text rows) rows (shape_comment plan kept taken is) whole (back (omega (arith, whole, count)))
