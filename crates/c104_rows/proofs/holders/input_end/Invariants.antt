use Rattle.c104_rows.specs.{Holders.{first_end, input_end, input_tokens}, declared.holders.TheConstants.BUFFER_LIMIT}
use Rattle.std.proofs.Common.{◌-◌, ◌≡◌}

-- what is left tells it
abbrev pub invariant-loop-index : Rattle.c104_rows.proofs.holders.input_end.Given.invariant-loop-index
invariant-loop-index l = first_end (input_tokens l.net l.port) (BUFFER_LIMIT - l.index) l.index ≡ input_end l.net l.port
