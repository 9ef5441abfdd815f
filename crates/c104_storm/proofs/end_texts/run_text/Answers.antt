use Rattle.{c104_storm.{proofs.SortedArrivals.joined_to, specs.Texts.audited_line}, std.proofs.Common.{refl, ◌∙◌}}

pub returns : Rattle.c104_storm.proofs.end_texts.run_text.Goals.returns
returns c =
    rw c.if-is_long.false
    (joined_to _ _ audited_line _ _ (c.in_ok-extend_from_slice.ensures.items ∙ rw c.new-text.ensures.items refl) c.in_ok-add_sorted.ensures)
