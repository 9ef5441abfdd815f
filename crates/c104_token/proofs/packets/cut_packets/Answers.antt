use Rattle.c104_token.{proofs.Cutting.{left_unmarked, packets_joined}, specs.{Cut.{unfinished_piece, whole_pieces}, Packets.packet_tokens}}
use Rattle.{c104_token.specs.Tokens.Byte, std.proofs.Common.{[], ap, append-nil, arith, drop, length, map, sym, ◌∙◌, ◌≡◌}}
use Rattle.std.proofs.lemmas.List.{drop_all, length-map}

-- after the loop no token is left to read
pub returns : Rattle.c104_token.proofs.packets.cut_packets.Goals.returns
returns c =
    let at = c.loop-token.invariant in
    let none : drop c.loop-token.token-index c.args.list.now ≡ [] = drop_all c.loop-token.token-index c.args.list.now (omega arith) in
    let whole : map packet_tokens c.loop-token.packets.items ≡ whole_pieces (λ x. x) [] c.args.list.now = sym (append-nil (map packet_tokens c.loop-token.packets.items)) ∙ (rw none at at.whole) in
    let unfinished : map Byte c.loop-token.bytes.items ≡ unfinished_piece (λ x. x) [] c.args.list.now = rw none at at.unfinished in
    let left : c.len.result ≡ length (unfinished_piece (λ x. x) [] c.args.list.now) = omega (arith, c.len.ensures, length-map c.loop-token.bytes.items Byte, ap length unfinished) in
    record {
      whole = whole;
      unfinished = left;
      joined = packets_joined c.args.list.now c.loop-token.packets.items c.len.result whole left;
      no_mark = left_unmarked c.args.list.now c.loop-token.packets.items c.len.result whole left;
    }
