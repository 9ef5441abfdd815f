use Rattle.{c104_interval.specs.Selection.reset_row, c104_regs.specs.Packed.word_of_row, std.proofs.Common.{[], ap, arith, length, map}}
use Rattle.std.proofs.{Common.{sym, take, ◌++◌, ◌<◌, ◌∙◌, ◌∷◌, ◌≡◌}, lemmas.List.{get_or_default, length-set, map_more, take_all}}
use Rattle.std.proofs.lemmas.List.{take_more_set}
use Rattle.c104_regs.proofs.packed.packed_rows.Goals as goal

pub loop-k-preserved : goal.loop-k-preserved
loop-k-preserved c =
    let here : c.loop-k.k < length c.loop-k.words = omega (arith, c.loop-k.invariant.0) in
    let there : c.loop-k.k < length c.args.rows.now = omega (arith, c.told-rows) in
    (rw length-set c.loop-k.invariant.0, rw (take_more_set c.loop-k.words c.loop-k.k _ here, map_more word_of_row c.args.rows.now c.loop-k.k reset_row there, c.loop-k.invariant.1, c.word_of_row.ensures) (ap (λ row. map word_of_row (take c.loop-k.k c.args.rows.now) ++ word_of_row row ∷ []) (get_or_default c.args.rows.now c.loop-k.k _ reset_row there)))

pub returns : goal.returns
returns c =
    let end : c.loop-k.k ≡ 36 = omega arith in
    let all : take c.loop-k.k c.loop-k.words ≡ c.loop-k.words = take_all c.loop-k.k c.loop-k.words (omega (arith, c.loop-k.invariant.0)) in
    let given : take c.loop-k.k c.args.rows.now ≡ c.args.rows.now = take_all c.loop-k.k c.args.rows.now (omega (arith, c.told-rows)) in
    sym all ∙ c.loop-k.invariant.1 ∙ ap (map word_of_row) given
