use Rattle.{c104_node.specs.declared.origins.Origin.Origin, std.proofs.Common.{List, Some, ap, length, refl, slice_get, sym, ◌∙◌, ◌≡◌}}
use Rattle.std.{proofs.lemmas.Option.slice_get_read, specs.Global.Vec as Kept}

pub returns : Rattle.c104_tests_net.proofs.named_packets.listed.Goals.returns
returns c =
    let all : List (Kept Origin) = c.args.lists.now in
    let found = c.in-Some.ensures.lookup in
    let listed : slice_get all c.args.terminal ≡ Some c.in-Some.list.now = slice_get_read all (length all) c.args.terminal c.in-Some.list.now refl found.3.0 found.1 in
    let list : List Origin = c.deref.result.now in
    let met = c.in-Some-get.ensures.lookup in
    let there : slice_get list c.args.number ≡ Some c.in-Some-get.origin.now = slice_get_read list (length list) c.args.number c.in-Some-get.origin.now refl met.3.0 met.1 in
    (c.in-Some.list.now, listed, ap (λ xs. slice_get xs c.args.number) (sym c.deref.ensures.value) ∙ there)
