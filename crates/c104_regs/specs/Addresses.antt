-- The registers of a switch: the table of a link's registers, and what stands at an address.
--     register_properties r      the table's line of register r
--     register_takes r v      whether register r may be set to v
--     address_of a      what stands at address a, if anything does
pub use Rattle.c104_regs.specs.declared.addresses.{Address.Address, Register.Register}
use Rattle.{c104_interval.specs.declared.intervals.TheConstants.ROWS, c104_regs.specs.declared.addresses.Address.TheVariants.AtLink}
use Rattle.c104_regs.specs.declared.addresses.{Address.TheVariants.{DeviceId, Started}, Register.TheVariants.{Base, Credit, Granted}}
use Rattle.c104_regs.specs.declared.addresses.Register.TheVariants.{InputLevel, Limit, Mode, OutputLevel, Owner, RandomBase, RandomRange}
use Rattle.c104_regs.specs.declared.{addresses.Register.TheVariants.{Select, Short, Sunk}, registers.TheConstants.LINKS}
use Rattle.c104_regs.specs.declared.values.TheConstants.{SINK_CODE}
use Rattle.std.specs.Prelude.{Bool, List, None, Option, Some, [], false, if◌then◌else◌, nat_le, nat_lt, option_map, slice_get, true, ℕ, ◌%◌}
use Rattle.std.specs.Prelude.{◌&&◌, ◌*◌, ◌+◌, ◌-◌, ◌/◌, ◌<◌, ◌==◌, ◌||◌, ◌∷◌}

-- a line of the table of a link's registers: how far the register stands from the link's first address,
-- whether it can be written, the greatest value that it may be set to, and its value after a reset
pub record RegisterProperties : Type 0 where
  pub offset : ℕ
  pub is_writable : Bool
  pub greatest : ℕ
  pub reset : ℕ

-- a register that can be written
abbrev pub writable_properties : ℕ → ℕ → ℕ → RegisterProperties
writable_properties offset greatest reset =
    record { offset = offset; is_writable = true; greatest = greatest; reset = reset }

-- a register that tells the link's status: it can't be written, and is 0 after a reset
abbrev pub status_properties : ℕ → RegisterProperties
status_properties offset =
    record { offset = offset; is_writable = false; greatest = 0; reset = 0 }

-- the table of a link's registers
abbrev pub register_properties : Register → RegisterProperties
register_properties Mode = writable_properties 0x00 0x0f 0
register_properties RandomBase = writable_properties 0x01 0xffff 0
register_properties RandomRange = writable_properties 0x02 0x10000 0
register_properties Sunk = status_properties 0x03
register_properties Short = status_properties 0x04
register_properties InputLevel = status_properties 0x05
register_properties OutputLevel = status_properties 0x06
register_properties Credit = status_properties 0x07
register_properties Granted = status_properties 0x08
register_properties Owner = status_properties 0x09
register_properties Base = writable_properties 0x3f 0xffff 0
register_properties (Limit k) = writable_properties (0x40 + k) 0x10000 0
register_properties (Select k) = writable_properties (0x80 + k) SINK_CODE SINK_CODE

-- there is such a register: the row is one of the table's
abbrev pub IsRegister : Register → Type 0
IsRegister (Limit k) = k < ROWS
IsRegister (Select k) = k < ROWS
IsRegister r = Unit {0}

-- there is such an address: the link is one of the switch's
abbrev pub IsAddress : Address → Type 0
IsAddress (AtLink l r) = (l < LINKS) × IsRegister r
IsAddress x = Unit {0}

-- the address of a register
abbrev pub address_number : Address → ℕ
address_number DeviceId = 0x0000
address_number Started = 0x0001
address_number (AtLink l r) = 0x100 * (l + 1) + (register_properties r).offset

-- whether a poke can set what stands at an address
abbrev pub is_writable_address : Address → Bool
is_writable_address DeviceId = false
is_writable_address Started = false
is_writable_address (AtLink l r) = (register_properties r).is_writable

-- whether register r may be set to v. Of the numbers that are no links a row can select that to discard and the
-- sink's.
abbrev pub register_takes : Register → ℕ → Bool
register_takes r v = nat_le v (register_properties r).greatest && is_open r v
  where
    is_open : Register → ℕ → Bool
    is_open (Select k) v = nat_le v LINKS || v == SINK_CODE
    is_open r v = true

-- the registers that stand at the first offsets, in order
abbrev pub first_registers : List Register
first_registers =
    Mode ∷ RandomBase ∷ RandomRange ∷ Sunk ∷ Short ∷ InputLevel ∷ OutputLevel ∷ Credit ∷ Granted
    ∷ Owner ∷ []

-- the register at an offset from a link's first address, if there is one
abbrev pub register_at : ℕ → Option Register
register_at offset =
    if nat_lt offset 0x0a then slice_get first_registers offset
    else (if offset == 0x3f then Some Base
    else (if nat_le 0x40 offset && nat_lt offset (0x40 + ROWS) then Some (Limit (offset - 0x40))
    else (if nat_le 0x80 offset && nat_lt offset (0x80 + ROWS) then Some (Select (offset - 0x80))
    else None)))

-- what stands at an address, if anything does: two registers of the switch, and from 0x100 on 0x100
-- addresses for each link
abbrev pub address_of : ℕ → Option Address
address_of a =
    if a == 0x0000 then Some DeviceId
    else (if a == 0x0001 then Some Started
    else (if nat_le 0x0100 a && nat_lt a 0x2100 then
    option_map (λ r. AtLink (a / 0x100 - 1) r) (register_at (a % 0x100))
    else None))
