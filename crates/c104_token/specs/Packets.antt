-- Packets, and the tokens of a packet.
pub use Rattle.c104_token.specs.declared.packets.Packet.{Packet}
use Rattle.c104_token.specs.Tokens.{Byte, Token, end_token}
use Rattle.std.specs.Prelude.{List, [], map, ◌++◌, ◌∷◌}

-- one token for each byte, and then the mark
abbrev pub packet_tokens : Packet → List Token
packet_tokens packet = map Byte packet.bytes ++ end_token packet.mark ∷ []
