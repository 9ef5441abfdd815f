-- Origins: which packet each terminator among tokens ended.
pub use Rattle.c104_node.specs.declared.origins.Origin.{Origin}
use Rattle.{c104_node.specs.Traced.{Source, Traced}, c104_token.specs.Tokens.is_end}
use Rattle.std.specs.{Option.option_to_list, Prelude.{Bool, List, None, Option, Some, false, flat_map, slice_get, true, ℕ, ◌≡◌}}

-- the packet that a token of this source belongs to, if the token is a terminator and has a source
abbrev pub origin_by : Bool → Option Source → Option Origin
origin_by false source = None
origin_by true None = None
origin_by true (Some s) = Some (record { terminal = s.terminal; number = s.number })

-- the packet that a terminator ended, if it is known where it came from; other tokens end none
abbrev pub origin_of : Traced → Option Origin
origin_of x = origin_by (is_end x.token) x.source

-- the origins of the packets whose terminators are among these tokens, in order
abbrev pub origins_in : List Traced → List Origin
origins_in tokens = flat_map (λ x. option_to_list (origin_of x)) tokens

-- a token that, if it is a terminator, tells its packet
abbrev pub IsSure : Traced → Type 0
IsSure x = is_end x.token ≡ true → (s : Source) × (x.source ≡ Some s)

-- each terminator among tokens tells its packet
abbrev pub AreSure : List Traced → Type 0
AreSure tokens = (k : ℕ) (x : Traced) → slice_get tokens k ≡ Some x → IsSure x
