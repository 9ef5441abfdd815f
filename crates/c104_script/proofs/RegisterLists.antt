-- The registers of a link that names are looked up among are registers.
use Rattle.{c104_interval.specs.declared.intervals.TheConstants.ROWS, c104_regs.specs.Addresses.IsRegister}
use Rattle.{c104_script.specs.RegisterWords.{row_registers, single_registers}, std.proofs.Common.{All, rules, ℕ, ◌<◌}}
use Rattle.std.proofs.lemmas.List.Elements.{All-from_recursion}

pub are_single : All IsRegister single_registers
are_single = All-from_recursion IsRegister single_registers (search rules)

pub are_of_row : (k : ℕ) → k < ROWS → All IsRegister (row_registers k)
are_of_row k small = All-from_recursion IsRegister (row_registers k) (search rules)
