use Rattle.{c104_plan.{proofs.TextBytes.list_all-weaker, specs.TextCut.{is_printable, parts_words}}, std.proofs.Common.{ap, sym, true, ℕ}}
use Rattle.std.{proofs.Common.{◌||◌, ◌∙◌, ◌≡◌}, specs.List.list_all}

also_plain : (byte : ℕ) → is_printable byte ≡ true → (is_printable byte || parts_words byte) ≡ true
also_plain byte is = ap (λ x. x || parts_words byte) is

-- src/text.rt:74:1
pub returns-then-are_printable : Rattle.c104_plan.proofs.text.is_plain.Goals.returns-then-are_printable
returns-then-are_printable c =
    let all : list_all is_printable c.args.line.now ≡ true = sym c.are_printable.ensures ∙ c.if-are_printable.true in
    c.if-are_printable.true ∙ sym (list_all-weaker is_printable (λ byte. is_printable byte || parts_words byte) also_plain c.args.line.now all)
