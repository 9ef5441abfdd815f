-- The registers of a switch, by address.
use Rattle.c104_regs.specs.{Addresses.{Address, IsRegister, Register, address_of, register_properties, register_takes}, Faults.RegFault}
use Rattle.c104_regs.specs.{Ranges.IsInRange, Settings.{Settings, reset_settings}, Values.{Status, bit_value, register_read, reset_status}}
use Rattle.c104_regs.specs.{Values.with_value, declared.addresses.Address.TheVariants.{AtLink, DeviceId, Started}}
use Rattle.c104_regs.specs.declared.{addresses.Register.TheVariants.Mode, faults.RegFault.TheVariants.{Busy, NoRegister, OutOfRange}}
use Rattle.c104_regs.specs.declared.{faults.RegFault.TheVariants.ReadOnly, registers.TheConstants.{DEVICE_ID, LINKS}}
use Rattle.std.specs.Prelude.{Bool, Err, IsTrue, List, None, Ok, Option, Result, Some, false, if◌then◌else◌, length, not, replicate}
use Rattle.std.specs.Prelude.{slice_index_or, slice_set, true, ℕ, ◌&&◌, ◌<◌, ◌≡◌}

-- what the registers of a switch hold: whether it is started, and for each link what is set there and
-- what the switch told of it
pub record RegisterBank : Type 0 where
  pub started : Bool
  pub settings : List Settings
  pub statuses : List Status

-- what is set at link l; past the last link, what is set after a reset
abbrev pub settings_at : RegisterBank → ℕ → Settings
settings_at b l = slice_index_or b.settings l reset_settings

-- what the switch told of link l
abbrev pub status_at : RegisterBank → ℕ → Status
status_at b l = slice_index_or b.statuses l reset_status

-- the registers after a reset
abbrev pub reset_bank : RegisterBank
reset_bank = record {
  started = false;
  settings = replicate LINKS reset_settings;
  statuses = replicate LINKS reset_status;
}

-- the registers of a started switch with these settings, which has told nothing yet
abbrev pub placed_bank : List Settings → RegisterBank
placed_bank settings = record {
  started = true;
  settings = settings;
  statuses = replicate LINKS reset_status;
}

-- the invariant of a switch's registers
pub record IsRegisterBank (b : RegisterBank) : Type 0 where
  pub links : length b.settings ≡ LINKS
  pub statuses : length b.statuses ≡ LINKS
  pub in_range : (l : ℕ) → IsInRange (settings_at b l)

-- what stands at an address reads
abbrev pub address_value : RegisterBank → Address → ℕ
address_value b DeviceId = DEVICE_ID
address_value b Started = bit_value b.started 1
address_value b (AtLink l r) = register_read (settings_at b l) (status_at b l) r

-- what address a reads, where there is a register
abbrev pub bank_peek : RegisterBank → ℕ → Result ℕ RegFault
bank_peek b a = shown (address_of a)
  where
    shown : Option Address → Result ℕ RegFault
    shown None = Err NoRegister
    shown (Some x) = Ok (address_value b x)

-- the link and the register that a poke of v at address a would set, or the first fault of the two
abbrev pub target : ℕ → ℕ → Result (ℕ × Register) RegFault
target a v = at (address_of a)
  where
    at : Option Address → Result (ℕ × Register) RegFault
    at None = Err NoRegister
    at (Some DeviceId) = Err ReadOnly
    at (Some Started) = Err ReadOnly
    at (Some (AtLink l r)) =
        if not (register_properties r).is_writable then Err ReadOnly
        else (if not (register_takes r v) then Err OutOfRange
        else Ok (l, r))

-- at address a stands register r of link l, which can be written and takes v
pub record IsTarget (a v l : ℕ) (r : Register) : Type 0 where
  pub at : address_of a ≡ Some (AtLink l r)
  pub link : l < LINKS
  pub register : IsRegister r
  pub is_writable : IsTrue (register_properties r).is_writable
  pub in_range : IsTrue (register_takes r v)

-- whether a register may be set to v at address a, by the address and the value alone
abbrev pub settable : ℕ → ℕ → Result (Unit {0}) RegFault
settable a v = answered (target a v)
  where
    answered : Result (ℕ × Register) RegFault → Result (Unit {0}) RegFault
    answered (Err e) = Err e
    answered (Ok x) = Ok tt

-- whether this register can't be set while its link is busy
abbrev pub waits : Register → Bool
waits Mode = true
waits r = false

-- the link and the register that a poke of v at address a sets, by whether the link is busy; or the first
-- fault
abbrev pub free_target : Bool → ℕ → ℕ → Result (ℕ × Register) RegFault
free_target busy a v = unless (target a v)
  where
    unless : Result (ℕ × Register) RegFault → Result (ℕ × Register) RegFault
    unless (Err e) = Err e
    unless (Ok (l, r)) = if waits r && busy then Err Busy else Ok (l, r)

-- the settings of all links after register r of link l is set to v
abbrev pub settings_with : List Settings → ℕ → Register → ℕ → List Settings
settings_with settings l r v = slice_set settings l (with_value (slice_index_or settings l reset_settings) r v)

-- the registers after register r of link l is set to v
abbrev pub with_register : RegisterBank → ℕ → Register → ℕ → RegisterBank
with_register b l r v = record b { settings = settings_with b.settings l r v }

-- the registers after the switch told the status of link l
abbrev pub with_status : RegisterBank → ℕ → Status → RegisterBank
with_status b l status = record b { statuses = slice_set b.statuses l status }

-- what a poke of v at address a answers, and the registers after it
abbrev pub bank_poke : RegisterBank → ℕ → ℕ → Result (Unit {0}) RegFault × RegisterBank
bank_poke b a v = at (target a v)
  where
    at : Result (ℕ × Register) RegFault → Result (Unit {0}) RegFault × RegisterBank
    at (Err e) = (Err e, b)
    at (Ok (l, r)) = if waits r && (status_at b l).busy then (Err Busy, b) else (Ok tt, with_register b l r v)
