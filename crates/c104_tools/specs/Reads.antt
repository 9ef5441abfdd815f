-- What the debugger reads, by the registers that a switch has.
use Rattle.{c104_control.specs.{Table.reply_bytes, declared.replies.Answer.TheVariants.Value}, c104_regs.specs.Addresses.address_number}
use Rattle.{c104_regs.specs.declared.addresses.{Address.TheVariants.AtLink, Register.TheVariants.Sunk}, c104_switch.specs.Peeks.switch_peek}
use Rattle.{c104_switch.specs.Switch.Switch, c104_token.specs.declared.tokens.Token.Token, c104_tools.specs.Ports.Switches}
use Rattle.c104_tools.specs.declared.reading.LinkNumbers.{LinkNumbers}
use Rattle.std.specs.{List.{AllByRecursion, range_with_len, zip}, Prelude.{List, None, Ok, Option, Some, [], slice_get, ℕ, ◌∷◌, ◌≡◌}}

-- the addresses of what a link tells of itself
abbrev pub link_addresses : ℕ → List ℕ
link_addresses link = range_with_len (address_number (AtLink link Sunk)) 7

-- the numbers of a link, in the order of their addresses
abbrev pub link_values : LinkNumbers → List ℕ
link_values n =
    n.sunk ∷ n.short ∷ n.input_level ∷ n.output_level ∷ n.credit ∷ n.granted ∷ n.owner ∷ []

-- the register of a switch at this address has this value, in the 32 bits of a reply
abbrev pub HasValue : Switch Token → ℕ × ℕ → Type 0
HasValue s x = (w : ℕ) × (switch_peek s x.0 ≡ Ok w) × (reply_bytes (Value w) ≡ reply_bytes (Value x.1))

-- of a port that shows its switches: the registers of a switch at these addresses have these values
abbrev pub AreSeen : Option Switches → ℕ → List ℕ → List ℕ → Type 0
AreSeen None switch addresses values = Unit {0}
AreSeen (Some switches) switch addresses values =
    (s : Switch Token) → slice_get switches switch ≡ Some s → AllByRecursion (HasValue s) (zip addresses values)
