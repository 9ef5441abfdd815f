-- What is kept of one switch of an image.
use Rattle.c104_regs.specs.{KeptValues.kept_values, Registers.{IsRegisterBank, RegisterBank, placed_bank}}
use Rattle.std.specs.{List.cons_option, Prelude.{List, Option, option_map, ℕ, ◌≡◌}}

-- registers of a started switch that has told nothing yet, and beside them what differs from a reset
pub record AreKept (registers : RegisterBank) (pairs : List (ℕ × ℕ)) : Type 0 where
  pub in_range : IsRegisterBank registers
  pub placed : registers ≡ placed_bank registers.settings
  pub values : pairs ≡ kept_values registers.settings

-- the value of an address, if it has one, before other values
abbrev pub led_by : ℕ → Option ℕ → List (ℕ × ℕ) → List (ℕ × ℕ)
led_by a value rest = cons_option (option_map (λ v. (a, v)) value) rest
