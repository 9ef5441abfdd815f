use Rattle.{c104_node.proofs.ArrivedLists.next_among, std.proofs.Common.{Some, ap, arith, length, slice_get, sym, ◌<◌, ◌∙◌, ◌≡◌}}
use Rattle.std.proofs.lemmas.Option.{slice_get-get_or}

pub loop-other-preserved : Rattle.c104_node.proofs.terminal.arrived.token_among.Goals.loop-other-preserved
loop-other-preserved g c =
    let inside : c.loop-other.other-index < length c.args.others.now = omega arith in
    let there : slice_get c.args.others.now c.loop-other.other-index ≡ Some c.other-item.result = slice_get-get_or c.args.others.now c.loop-other.other-index c.other-item.result inside ∙ ap Some (sym c.other-item.is) in
    λ list is. next_among c.args.others.now c.loop-other.other-index c.other-item.result c.args.index c.loop-other.token c.token_over-token.result list there c.token_over-token.ensures.here c.token_over-token.ensures.elsewhere (c.loop-other.invariant list is)
