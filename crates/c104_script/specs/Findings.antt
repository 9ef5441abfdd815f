-- What is printed of what the debugger found.
pub use Rattle.c104_script.specs.declared.{findings.Finding.Finding, found_registers.FoundRegister.FoundRegister}
use Rattle.c104_interval.specs.declared.intervals.{Row.Row, Select.{Select, TheVariants.Sink}, Table.Table}
use Rattle.{c104_plan.specs.PortTexts.select_text, c104_regs.specs.{Addresses.address_of, Faults.register_fault_name}}
use Rattle.c104_regs.specs.{Faults.register_fault_number, declared.{addresses.Address.Address, faults.RegFault.RegFault}}
use Rattle.{c104_script.specs.RegisterWords.{address_link, address_name, address_row}, c104_token.specs.Text.hex_digit}
use Rattle.std.specs.{Fmt.decimal, List.list_all, Prelude.{Bool, List, None, Option, Some, [], codes, false, flat_map, if◌then◌else◌}}
use Rattle.std.specs.Prelude.{length, true, ℕ, ◌%◌, ◌&&◌, ◌++◌, ◌/◌, ◌==◌, ◌∷◌}

-- a byte: its two hexadecimal digits
abbrev pub byte_text : ℕ → List ℕ
byte_text byte = hex_digit (byte / 16) ∷ hex_digit (byte % 16) ∷ []

-- a fault, by its number and name
abbrev pub fault_words : ℕ → List ℕ → List ℕ
fault_words number name = decimal number ++ (codes " " ++ name)

-- an address, or half a value: its four hexadecimal digits
abbrev pub half_text : ℕ → List ℕ
half_text half = byte_text (half / 0x100) ++ byte_text (half % 0x100)

-- a value: its eight hexadecimal digits
abbrev pub word_text : ℕ → List ℕ
word_text value = half_text (value / 0x10000) ++ half_text (value % 0x10000)

-- what a link tells of itself
abbrev pub link_text : ℕ → ℕ → ℕ → ℕ → ℕ → ℕ → ℕ → List ℕ
link_text input_level output_level credit granted owner sunk short =
    (codes "in " ++ decimal input_level) ++ ((codes " out " ++ decimal output_level)
    ++ ((codes " credit " ++ decimal credit) ++ ((codes " granted " ++ decimal granted)
    ++ ((codes " owner " ++ decimal owner) ++ ((codes " sunk " ++ decimal sunk)
    ++ (codes " short " ++ decimal short))))))

-- whether this is the sink
abbrev pub is_sink : Select → Bool
is_sink Sink = true
is_sink select = false

-- whether a row is as after a reset
abbrev pub is_reset_row : Row → Bool
is_reset_row row = is_sink row.select && row.limit == 0

-- a row: where its interval ends, and what it selects
abbrev pub row_text : Row → List ℕ
row_text row = (codes " " ++ decimal row.limit) ++ (codes ":" ++ select_text row.select)

-- rows, up to the last that isn't as after a reset
abbrev pub rows_text : List Row → List ℕ
rows_text [] = []
rows_text (row ∷ rows) = if list_all is_reset_row (row ∷ rows) then [] else row_text row ++ rows_text rows

-- a table: its base and its rows
abbrev pub table_text : Table → List ℕ
table_text table = (codes "base " ++ decimal table.base) ++ (codes " rows" ++ rows_text table.rows)

-- an address and a value
abbrev pub register_text : ℕ → ℕ → List ℕ
register_text addr value = codes " " ++ (half_text addr ++ (codes " " ++ word_text value))

-- the register of the switch of this name at this address reads another value than was loaded
abbrev pub difference_text : List ℕ → ℕ → ℕ → List ℕ
difference_text switch addr value = codes "differs " ++ (switch ++ register_text addr value)

-- why a register is refused
abbrev pub refusal_text : RegFault → List ℕ
refusal_text kind = codes "refused register " ++ fault_words (register_fault_number kind) (register_fault_name kind)

-- a number behind a mark, where there is one
abbrev pub numbered_text : ℕ → Option ℕ → List ℕ
numbered_text mark None = []
numbered_text mark (Some n) = mark ∷ decimal n

-- the name of what stands at an address, behind that of its switch: the link, the register, and the row
abbrev pub name_text : Option Address → List ℕ
name_text None = []
name_text (Some x) = numbered_text 46 (address_link x) ++ (32 ∷ (address_name x ++ numbered_text 32 (address_row x)))

-- what was loaded, where a register is compared with that
abbrev pub loaded_text : Option ℕ → List ℕ
loaded_text None = []
loaded_text (Some value) = codes " loaded" ++ (32 ∷ word_text value)

-- the line of a register
abbrev pub found_text : FoundRegister → List ℕ
found_text r = 10 ∷ (r.switch ++ (name_text (address_of r.addr) ++ ((32 ∷ word_text r.value) ++ loaded_text r.loaded)))

-- how many registers were found, and a line for each
abbrev pub registers_text : List FoundRegister → List ℕ
registers_text registers = codes "registers " ++ (decimal (length registers) ++ flat_map found_text registers)

-- what was found
abbrev pub finding_text : Finding → List ℕ
finding_text (Finding.Value value) = word_text value
finding_text (Finding.Link input_level output_level credit granted owner sunk short) =
    link_text input_level output_level credit granted owner sunk short
finding_text (Finding.Table table) = table_text table
finding_text Finding.Verified = codes "verified"
finding_text (Finding.Differs switch addr value) = difference_text switch addr value
finding_text (Finding.Registers registers) = registers_text registers
finding_text (Finding.Refused kind) = refusal_text kind
