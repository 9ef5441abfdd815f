-- The faults of a packet's text.
pub use Rattle.c104_token.specs.declared.faults.TokenFault.{TokenFault}
use Rattle.c104_token.specs.declared.faults.TokenFault.TheVariants.{AfterEnd, BadHex, NoEnd, NoMemory, TooLong}
use Rattle.std.specs.Prelude.{ℕ}

-- the number of a fault
abbrev pub token_fault_number : TokenFault → ℕ
token_fault_number BadHex = 1
token_fault_number NoEnd = 2
token_fault_number AfterEnd = 3
token_fault_number TooLong = 4
token_fault_number NoMemory = 5
