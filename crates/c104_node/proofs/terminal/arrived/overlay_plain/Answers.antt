use Rattle.{c104_node.proofs.ArrivedLists.next_plain, std.proofs.Common.{Some, ap, arith, length, slice_get, slice_set, sym, ◌<◌, ◌∙◌, ◌≡◌}}
use Rattle.std.proofs.lemmas.Option.{slice_get-get_or}

pub loop-other-preserved : Rattle.c104_node.proofs.terminal.arrived.overlay_plain.Goals.loop-other-preserved
loop-other-preserved g c = λ tokens first.
    let inside : c.loop-other.other-index < length c.args.others.now = omega arith in
    let there : slice_get c.args.others.now c.loop-other.other-index ≡ Some c.other-item.result = slice_get-get_or c.args.others.now c.loop-other.other-index c.other-item.result inside ∙ ap Some (sym c.other-item.is) in
    next_plain g.T.TokenKind.kind.plain c.args.others.now c.loop-other.other-index c.other-item.result tokens c.loop-other.list c.lay.new.list there (c.lay.ensures ∙ ap (λ t. slice_set c.loop-other.list c.other-item.result.place t) c.plain.ensures) (c.loop-other.invariant tokens first)
