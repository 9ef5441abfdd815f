-- Owners as they are kept: for each output the input that streams to it, if one does.
use Rattle.{c104_regs.specs.declared.registers.TheConstants.LINKS, c104_switch.specs.{Switch.Input, Views.owner_from}}
use Rattle.std.specs.Prelude.{List, None, Option, length, slice_index_or, ℕ, ◌≡◌}

-- what is kept of each of the 32 outputs is the input that streams to it, if one does; past the last output there is none
pub record AreOwners {A : Type 0} (owners : List (Option ℕ)) (ps : List (Input A)) : Type 0 where
  pub count : length owners ≡ LINKS
  pub each : (o : ℕ) → slice_index_or owners o None ≡ owner_from 0 ps o
