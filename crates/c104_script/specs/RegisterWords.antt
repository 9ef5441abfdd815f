-- Registers as the lines of a script name them: by an address, or by a name, behind which the number of a row may stand.
--     address_name x      the name of what stands at an address
--     register_place word row_word      which register words stand for
--     register_with switch link place      that register of a switch, by its address
pub use Rattle.c104_script.specs.declared.register_words.RegisterPlace.{RegisterPlace}
use Rattle.c104_event.specs.declared.faults.EventFault.{EventFault, TheVariants.{NoLink, NoNode}}
use Rattle.{c104_interval.specs.declared.intervals.TheConstants.ROWS, c104_plan.specs.Checks.{require, value_or_fault, ◌>>=◌, ◌>>◌}}
use Rattle.{c104_plan.specs.TextWords.read_number, c104_regs.specs.Addresses.{IsRegister, address_number, first_registers}}
use Rattle.c104_regs.specs.declared.addresses.{Address.Address, Register.{Register, TheVariants.{Base, Limit, Select}}}
use Rattle.{c104_regs.specs.declared.registers.TheConstants.LINKS, c104_script.specs.HexWords.address_word}
use Rattle.c104_script.specs.declared.{faults.LineFault.LineFault, register_words.RegisterPlace.TheVariants.{OfLink, OfSwitch}}
use Rattle.std.specs.Prelude.{Bool, Err, List, None, Ok, Option, Result, Some, [], bytes_eq, codes, find, if◌then◌else◌, is_some, nat_lt}
use Rattle.std.specs.Prelude.{not, ℕ, ◌++◌, ◌∷◌}

-- the name of a register of a link; the limits of all rows have one name, and so have their selects
abbrev pub link_register_name : Register → List ℕ
link_register_name Register.Mode = codes "mode"
link_register_name Register.RandomBase = codes "random-base"
link_register_name Register.RandomRange = codes "random-range"
link_register_name Register.Sunk = codes "sunk"
link_register_name Register.Short = codes "short"
link_register_name Register.InputLevel = codes "input-level"
link_register_name Register.OutputLevel = codes "output-level"
link_register_name Register.Credit = codes "credit"
link_register_name Register.Granted = codes "granted"
link_register_name Register.Owner = codes "owner"
link_register_name Register.Base = codes "base"
link_register_name (Register.Limit k) = codes "limit"
link_register_name (Register.Select k) = codes "select"

-- the name of what stands at an address; a register has the same name at each link
abbrev pub address_name : Address → List ℕ
address_name Address.DeviceId = codes "identity"
address_name Address.Started = codes "started"
address_name (Address.AtLink l r) = link_register_name r

-- the link whose register stands at an address
abbrev pub address_link : Address → Option ℕ
address_link (Address.AtLink l r) = Some l
address_link x = None

-- the row that a register of a link belongs to
abbrev pub register_row : Register → Option ℕ
register_row (Register.Limit k) = Some k
register_row (Register.Select k) = Some k
register_row r = None

-- the row whose register stands at an address
abbrev pub address_row : Address → Option ℕ
address_row (Address.AtLink l r) = register_row r
address_row x = None

-- the registers of a switch itself
abbrev pub switch_registers : List Address
switch_registers = Address.DeviceId ∷ Address.Started ∷ []

-- the registers of a link that belong to no row
abbrev pub single_registers : List Register
single_registers = first_registers ++ Base ∷ []

-- the registers of a row of a link's table
abbrev pub row_registers : ℕ → List Register
row_registers k = Limit k ∷ Select k ∷ []

-- that of the registers of a switch itself which has this name
abbrev pub named_address : List ℕ → Option Address
named_address word = find (λ x. bytes_eq (address_name x) word) switch_registers

-- that of these registers of a link which has this name
abbrev pub named_register : List Register → List ℕ → Option Register
named_register registers word = find (λ r. bytes_eq (link_register_name r) word) registers

-- whether the number of a row follows a name
abbrev pub takes_row : List ℕ → Bool
takes_row word = is_some (named_register (row_registers 0) word)

-- there is such a register at each link, if it is one of a link
abbrev pub IsPlace : RegisterPlace → Type 0
IsPlace (OfSwitch addr) = Unit {0}
IsPlace (OfLink r) = IsRegister r

-- by what has a name: a register of a switch itself, or of a link; a word that is no name is an address
abbrev pub place_named : List ℕ → Option Address → Option Register → Result RegisterPlace LineFault
place_named word (Some x) register = Ok (OfSwitch (address_number x))
place_named word None (Some r) = Ok (OfLink r)
place_named word None None = do
  addr ← address_word word
  Ok (OfSwitch addr)

-- the register that a word stands for alone
abbrev pub single_place : List ℕ → Result RegisterPlace LineFault
single_place word = place_named word (named_address word) (named_register single_registers word)

-- the register of a row that a name and a word for the row's number stand for
abbrev pub row_place : List ℕ → List ℕ → Result RegisterPlace LineFault
row_place word row_word = do
  row ← value_or_fault (read_number row_word) LineFault.BadNumber
  require (nat_lt row ROWS) LineFault.BadNumber
  register ← value_or_fault (named_register (row_registers row) word) LineFault.BadHex
  Ok (OfLink register)

-- which register a word stands for, with the word for a row's number where one follows
abbrev pub register_place : List ℕ → Option (List ℕ) → Result RegisterPlace LineFault
register_place word None = single_place word
register_place word (Some row_word) = row_place word row_word

-- whether the number of a row follows a name that takes one, and no other
abbrev pub is_row_due : List ℕ → Option (List ℕ) → Bool
is_row_due word None = not (takes_row word)
is_row_due word (Some row_word) = takes_row word

-- the register of a link that a switch is named with, by its address
abbrev pub link_register : ℕ → ℕ → Register → Result (ℕ × ℕ) EventFault
link_register s l r = if nat_lt l LINKS then Ok (s, address_number (Address.AtLink l r)) else Err NoLink

-- a switch and the address of its register: one of a link if the switch is named with the link, any other if without
abbrev pub register_with : Option ℕ → Option ℕ → RegisterPlace → Result (ℕ × ℕ) EventFault
register_with None link place = Err NoNode
register_with (Some s) None (OfSwitch addr) = Ok (s, addr)
register_with (Some s) (Some l) (OfLink r) = link_register s l r
register_with (Some s) link place = Err NoLink
