-- Tokens that tell where they came from.
pub use Rattle.c104_node.specs.declared.traced.{Source.Source, Traced.Traced}
use Rattle.c104_token.specs.{Kinds.{Kind, plain_byte}, declared.tokens.Token.Token}
use Rattle.std.specs.Prelude.{None, Option, Some, ℕ}

-- the token at a place of a packet of a terminal, which has this number among those that were sent there
abbrev pub sent_token : ℕ → ℕ → ℕ → Token → Traced
sent_token terminal number place x = record {
  token = x;
  source = Some (record { terminal = terminal; number = number; place = place });
}

-- the byte of a token that came from nowhere, if it is one
abbrev pub sourceless_byte : Token → Option Source → Option ℕ
sourceless_byte x None = plain_byte x
sourceless_byte x (Some s) = None

-- a token of a packet came from a terminal; one of a random header came from nowhere
abbrev pub traced_kind : Kind Traced
traced_kind = record {
  plain = λ x. x.token;
  byte = λ x. sourceless_byte x.token x.source;
  random = λ place x. record { token = x; source = None };
  sent = sent_token;
}
