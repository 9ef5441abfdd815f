-- Tagged tokens: a terminator tells its packet, in few bytes, since numbers are kept by their remainders; any other token
-- tells nothing.
use Rattle.{c104_node.specs.{Origins.Origin, Traced.{Source, Traced}}, c104_token.specs.{Kinds.{Kind, plain_byte}, Tokens.is_end}}
use Rattle.c104_token.specs.declared.tokens.Token.{Token}
use Rattle.std.specs.{Option.option_to_list, Prelude.{Bool, List, None, Option, Some, false, flat_map, if◌then◌else◌, true, ℕ, ◌%◌, ◌&&◌}}
use Rattle.std.specs.Prelude.{◌==◌}

-- a token, and where it is a terminator, the terminal that sent its packet and the packet's number there; 0 and 0 where
-- it is none, or of a random header
pub record TaggedToken : Type 0 where
  pub token : Token
  pub terminal : ℕ
  pub number : ℕ

-- a token of a packet, with its tag if it is a terminator
abbrev pub tagged_by : Bool → Token → ℕ → ℕ → TaggedToken
tagged_by true x t n = record { token = x; terminal = t % 65536; number = n % 4294967296 }
tagged_by false x t n = record { token = x; terminal = 0; number = 0 }

-- the byte of a token without a tag, if it is one
abbrev pub untagged_byte : TaggedToken → Option ℕ
untagged_byte x = if x.terminal == 0 && x.number == 0 then plain_byte x.token else None

abbrev pub tagged_kind : Kind TaggedToken
tagged_kind = record {
  plain = λ x. x.token;
  byte = untagged_byte;
  random = λ place x. record { token = x; terminal = 0; number = 0 };
  sent = λ terminal number place x. tagged_by (is_end x) x terminal number;
}

-- what is kept of a token that tells where it came from
abbrev pub tagged_source : Token → Option Source → TaggedToken
tagged_source x None = record { token = x; terminal = 0; number = 0 }
tagged_source x (Some s) = tagged_by (is_end x) x s.terminal s.number

abbrev pub tag : Traced → TaggedToken
tag x = tagged_source x.token x.source

-- the packet that a terminator tells
abbrev pub tagged_origin : Bool → TaggedToken → Option Origin
tagged_origin true x = Some (record { terminal = x.terminal; number = x.number })
tagged_origin false x = None

abbrev pub tagged_origins : List TaggedToken → List Origin
tagged_origins tokens = flat_map (λ x. option_to_list (tagged_origin (is_end x.token) x)) tokens
