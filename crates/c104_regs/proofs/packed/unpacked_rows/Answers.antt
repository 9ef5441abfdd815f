use Rattle.{c104_regs.specs.Packed.row_of_word, std.proofs.Common.{ap, arith, length, map, refl, sym, take, ◌<◌, ◌∙◌, ◌≡◌}}
use Rattle.std.proofs.lemmas.List.{length-set, map_more, take_all, take_more_set}
use Rattle.c104_regs.proofs.packed.unpacked_rows.Goals as goal

pub loop-k-preserved : goal.loop-k-preserved
loop-k-preserved c =
    let here : c.loop-k.k < length c.loop-k.rows = omega (arith, c.loop-k.invariant.0) in
    let there : c.loop-k.k < length c.args.words.now = omega (arith, c.told-words) in
    (rw length-set c.loop-k.invariant.0, rw (take_more_set c.loop-k.rows c.loop-k.k _ here, map_more row_of_word c.args.words.now c.loop-k.k 0 there, c.loop-k.invariant.1, c.row_of_word.ensures) refl)

pub returns : goal.returns
returns c =
    let end : c.loop-k.k ≡ 36 = omega arith in
    let all : take c.loop-k.k c.loop-k.rows ≡ c.loop-k.rows = take_all c.loop-k.k c.loop-k.rows (omega (arith, c.loop-k.invariant.0)) in
    let given : take c.loop-k.k c.args.words.now ≡ c.args.words.now = take_all c.loop-k.k c.args.words.now (omega (arith, c.told-words)) in
    sym all ∙ c.loop-k.invariant.1 ∙ ap (map row_of_word) given
