-- An input's table, as the debugger reads it.
use Rattle.{c104_interval.specs.declared.intervals.{Row.Row, Table.Table}, c104_regs.specs.{Addresses.address_number, Values.select_code}}
use Rattle.c104_regs.specs.declared.addresses.{Address.TheVariants.AtLink, Register.TheVariants.{Base, Select}}
use Rattle.c104_regs.specs.declared.values.TheConstants.{DISCARD_CODE, SINK_CODE}
use Rattle.std.specs.{List.range_with_len, Prelude.{Bool, List, map, nat_le, ℕ, ◌++◌, ◌==◌, ◌||◌, ◌∷◌}}

-- whether a number selects something: a link, to discard, or the sink
abbrev pub is_select : ℕ → Bool
is_select v = nat_le v DISCARD_CODE || v == SINK_CODE

-- what the two registers of a row read
abbrev pub row_limits : Row → ℕ
row_limits row = row.limit

abbrev pub row_codes : Row → ℕ
row_codes row = select_code row.select

-- the addresses of a table's registers: of the base and the limits, and then of the selects
abbrev pub table_addresses : ℕ → List ℕ
table_addresses link =
    range_with_len (address_number (AtLink link Base)) 37 ++ range_with_len (address_number (AtLink link (Select 0))) 36

-- the values of a table's registers, in the order of their addresses
abbrev pub table_values : Table → List ℕ
table_values t = (t.base ∷ map row_limits t.rows) ++ map row_codes t.rows
