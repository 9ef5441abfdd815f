use Rattle.{arrayvec.specs.ArrayVec.array_vec_len, c104_token.specs.Tokens.byte_of, std.proofs.Common.{length, map, take, ◌≡◌, ◌≤◌}}

-- the bytes of the tokens so far
abbrev pub invariant-loop-token : Rattle.c104_switch.proofs.header.HeaderOf.bytes.Given.invariant-loop-token
invariant-loop-token g l = record {
  count : array_vec_len l.bytes ≡ l.token-index;
  read : l.bytes.items ≡ map (λ x. byte_of (g.T.TokenKind.kind.plain x)) (take l.token-index l.token-items);
  few : length l.token-items ≤ 2;
}
