use Rattle.c104_describe.specs.{LineFaults.read_plan_words, PlanDrafts.draft_of, PlanText.ReadsLine}
use Rattle.{c104_plan.specs.TextCut.{is_plain_line, line_words, uncommented_line}, std.proofs.Common.{Bool, Bor, List, ap, map, subst, ℕ}}
use Rattle.std.proofs.Common.{◌∙◌, ◌≡◌}

-- the words that were cut are those of the line without its comment
pub returns : Rattle.c104_describe.proofs.lines.read_line.Goals.returns
returns c =
    let text : List ℕ = uncommented_line c.args.line.now in
    let cut : map (λ (w : Bor (List ℕ)). w.now) c.as_slice.result.now ≡ line_words text = ap (map (λ (w : Bor (List ℕ)). w.now)) c.as_slice.ensures ∙ c.in_ok-words.ensures ∙ ap line_words c.uncommented-line.ensures in
    let is_plain : c.is_plain.result ≡ is_plain_line text = c.is_plain.ensures ∙ ap is_plain_line c.uncommented-line.ensures in
    let ByWords : List (List ℕ) → Type 0 = λ list. ReadsLine c.read_words.result (draft_of c.read_words.new.draft) (read_plan_words (draft_of c.args.draft.now) c.is_plain.result list) in
    let ByPlain : Bool → Type 0 = λ b. ReadsLine c.read_words.result (draft_of c.read_words.new.draft) (read_plan_words (draft_of c.args.draft.now) b (line_words text)) in
    subst ByPlain is_plain (subst ByWords cut c.read_words.ensures)
