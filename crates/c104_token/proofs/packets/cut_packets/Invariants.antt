use Rattle.{c104_token.specs.{Cut.{unfinished_piece, whole_pieces}, Packets.packet_tokens, Tokens.Byte}, std.proofs.Common.{[], drop, map}}
use Rattle.std.proofs.Common.{◌++◌, ◌≡◌}

-- what was cut, and what the rest gives after the bytes read, are what the whole list gives
abbrev pub invariant-loop-token : Rattle.c104_token.proofs.packets.cut_packets.Given.invariant-loop-token
invariant-loop-token l = record {
  whole : map packet_tokens l.packets.items ++ whole_pieces (λ x. x) (map Byte l.bytes.items) (drop l.token-index l.list) ≡ whole_pieces (λ x. x) [] l.list;
  unfinished : unfinished_piece (λ x. x) (map Byte l.bytes.items) (drop l.token-index l.list) ≡ unfinished_piece (λ x. x) [] l.list;
}
