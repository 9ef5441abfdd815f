use Rattle.{c104_token.specs.Kinds.byte_token, std.proofs.Common.{map, take, ◌≡◌}}

-- the plain tokens of the bytes so far
abbrev pub invariant-loop-byte : Rattle.c104_node.proofs.terminal.arrived.plain_bytes.Given.invariant-loop-byte
invariant-loop-byte g l = l.list.items ≡ map g.T.TokenKind.kind.plain (map (byte_token g.T.TokenKind.kind) (take l.byte-index l.bytes))
