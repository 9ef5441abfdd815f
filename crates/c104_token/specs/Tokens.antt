-- Tokens: bytes, and the marks that end packets.
pub use Rattle.c104_token.specs.declared.tokens.{Mark.Mark, Token.{TheVariants.Byte, Token}}
use Rattle.std.specs.Prelude.{Bool, false, true, ℕ}
use Rattle.c104_token.specs.declared.tokens.Token.TheVariants as token

-- the token that ends a packet with this mark
abbrev pub end_token : Mark → Token
end_token Mark.Eop = token.Eop
end_token Mark.Eom = token.Eom

-- whether a token ends a packet
abbrev pub is_end : Token → Bool
is_end (Byte b) = false
is_end token.Eop = true
is_end token.Eom = true

-- the number that a byte stands for; a terminator stands for none, and counts as 0
abbrev pub byte_of : Token → ℕ
byte_of (Byte b) = b
byte_of token.Eop = 0
byte_of token.Eom = 0
