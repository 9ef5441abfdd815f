use Rattle.{c104_node.proofs.ArrivedLists.next_laid, std.proofs.Common.{Some, ap, arith, length, slice_get, sym, ◌<◌, ◌∙◌, ◌≡◌}}
use Rattle.std.proofs.lemmas.Option.{slice_get-get_or}

pub loop-other-preserved : Rattle.c104_node.proofs.terminal.arrived.overlay.Goals.loop-other-preserved
loop-other-preserved g c =
    let inside : c.loop-other.other-index < length c.args.others.now = omega arith in
    let there : slice_get c.args.others.now c.loop-other.other-index ≡ Some c.other-item.result = slice_get-get_or c.args.others.now c.loop-other.other-index c.other-item.result inside ∙ ap Some (sym c.other-item.is) in
    next_laid c.args.others.now c.loop-other.other-index c.other-item.result c.loop-other.list c.lay.new.list _ there c.lay.ensures c.loop-other.invariant
