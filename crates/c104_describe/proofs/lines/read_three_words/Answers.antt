use Rattle.c104_describe.specs.{LineFaults.{keyword_line, read_parts}, PlanDrafts.draft_of, PlanLines.{clos_parts, torus_parts}}
use Rattle.{c104_describe.specs.{PlanText.ReadsLine, declared.words.Keyword.Keyword}, std.proofs.Common.{List, [], codes, rules, subst}}
use Rattle.std.proofs.Common.{sym, ℕ, ◌∷◌, ◌≡◌}
use Rattle.c104_describe.proofs.lines.read_three_words.Goals as goal

-- one wire where the line says no count

pub returns-in-Torus : goal.returns-in-Torus
returns-in-Torus c =
    let draft = draft_of c.args.draft.now in
    let ByOne : List ℕ → Type 0 = λ one. ReadsLine c.set_torus.result (draft_of c.set_torus.new.draft) (read_parts draft.plan (torus_parts draft c.args.first.now c.args.second.now c.args.third.now one)) in
    let ByWord : Keyword → Type 0 = λ k. ReadsLine c.set_torus.result (draft_of c.set_torus.new.draft) (keyword_line draft k (c.args.first.now ∷ c.args.second.now ∷ c.args.third.now ∷ [])) in
    let one : c.as_slice.result.now ≡ codes "1" = search rules in
    subst ByWord (sym c.in-Torus.is) (subst ByOne one c.set_torus.ensures)

pub returns-in-Clos : goal.returns-in-Clos
returns-in-Clos c =
    let draft = draft_of c.args.draft.now in
    let ByOne : List ℕ → Type 0 = λ one. ReadsLine c.set_clos.result (draft_of c.set_clos.new.draft) (read_parts draft.plan (clos_parts draft c.args.first.now c.args.second.now c.args.third.now one)) in
    let ByWord : Keyword → Type 0 = λ k. ReadsLine c.set_clos.result (draft_of c.set_clos.new.draft) (keyword_line draft k (c.args.first.now ∷ c.args.second.now ∷ c.args.third.now ∷ [])) in
    let one : c.as_slice-in-Clos.result.now ≡ codes "1" = search rules in
    subst ByWord (sym c.in-Clos.is) (subst ByOne one c.set_clos.ensures)
