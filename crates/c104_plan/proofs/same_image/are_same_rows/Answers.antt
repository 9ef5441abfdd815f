use Rattle.{c104_plan.proofs.SameSettings.rows_decide, std.proofs.Common.{sym, ◌∙◌}}

pub returns : Rattle.c104_plan.proofs.same_image.are_same_rows.Goals.returns
returns c =
    let decides = rows_decide c.args.rows.now c.args.others.now in
    (λ is. decides.0 (sym c.eq.ensures ∙ is), λ same. c.eq.ensures ∙ decides.1 same)
