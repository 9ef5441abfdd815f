-- The values of a switch's registers as a finite map: of its settings what differs from a reset.
--     kept_value settings a      the value that is kept of address a
--     kept_values settings      all that are kept, each with its address, in ascending order
use Rattle.c104_regs.specs.{Addresses.{Address, Register, address_of, register_properties}, Registers.{bank_peek, placed_bank, reset_bank}}
use Rattle.c104_regs.specs.{Registers.settable, Settings.{Settings, reset_settings}, Values.{register_read, reset_status}}
use Rattle.c104_regs.specs.declared.{addresses.Address.TheVariants.{AtLink, DeviceId, Started}, registers.TheConstants.LINKS}
use Rattle.std.specs.{List.{AllPairs, Contains, filter_map, range_with_len}, Prelude.{List, None, Ok, Option, Some, if◌then◌else◌, not}}
use Rattle.std.specs.Prelude.{option_map, slice_index_or, ℕ, ◌&&◌, ◌*◌, ◌+◌, ◌<◌, ◌==◌, ◌↔◌, ◌≡◌, ◌≢◌}

-- a value of register r where it is kept: of one that can be written, and another than after a reset
abbrev pub unless_reset : Register → ℕ → Option ℕ
unless_reset r v =
    if (register_properties r).is_writable && not (v == (register_properties r).reset) then Some v else None

-- the value that is kept of address a, if one is: what its register reads, at a switch with these settings
abbrev pub kept_value : List Settings → ℕ → Option ℕ
kept_value settings a = at (address_of a)
  where
    at : Option Address → Option ℕ
    at None = None
    at (Some DeviceId) = None
    at (Some Started) = None
    at (Some (AtLink l r)) =
        unless_reset r (register_read (slice_index_or settings l reset_settings) reset_status r)

-- the same with its address
abbrev pub kept_entry : List Settings → ℕ → Option (ℕ × ℕ)
kept_entry settings a = option_map (λ v. (a, v)) (kept_value settings a)

-- the first address past those of the last link
abbrev pub address_end : ℕ
address_end = 0x100 * (LINKS + 1)

-- the values that are kept, each with its address, for each address in ascending order
unfoldable pub kept_values : List Settings → List (ℕ × ℕ)
kept_values settings = filter_map (kept_entry settings) (range_with_len 0 address_end)

-- v is kept of address a: a poke may set it there, a started switch with these settings reads it there, and
-- after a reset something else is read
pub record IsKept (settings : List Settings) (a v : ℕ) : Type 0 where
  pub settable : settable a v ≡ Ok tt
  pub reads : bank_peek (placed_bank settings) a ≡ Ok v
  pub differs : bank_peek reset_bank a ≢ Ok v

-- addresses with values are the finite map of those that are kept
pub record IsMapOf (settings : List Settings) (values : List (ℕ × ℕ)) : Type 0 where
  pub ascending : AllPairs (λ x y. x.0 < y.0) values
  pub entries : (a v : ℕ) → Contains values (a, v) ↔ IsKept settings a v
