-- Kinds of tokens: what the machine asks of whatever its links carry.
use Rattle.c104_token.specs.Tokens.{Byte, Token}
use Rattle.std.specs.Prelude.{None, Option, Some, ℕ}

-- what is asked of a kind of tokens: which token each is, and how those that a switch or a terminal
-- brings in are made
pub record Kind (A : Type 0) : Type 0 where
  -- the token itself
  pub plain : A → Token
  -- the byte of a token that is one and tells nothing else
  pub byte : A → Option ℕ
  -- the token at a place of a random header
  pub random : ℕ → Token → A
  -- the token at a place of a packet of a terminal: the terminal, the packet's number, the place
  pub sent : ℕ → ℕ → ℕ → Token → A

-- the token that is a byte and tells nothing else, which no terminal sent
abbrev pub byte_token : {A : Type 0} → Kind A → ℕ → A
byte_token kind b = kind.random 0 (Byte b)

-- the byte of a plain token, if it is one
abbrev pub plain_byte : Token → Option ℕ
plain_byte (Byte b) = Some b
plain_byte Token.Eop = None
plain_byte Token.Eom = None

-- tokens that tell nothing else
abbrev pub plain_kind : Kind Token
plain_kind = record { plain = λ x. x; byte = plain_byte; random = λ place x. x; sent = λ terminal number place x. x }
