use Rattle.c104_rows.specs.{Holders.{first_end, output_end, output_tokens}, declared.holders.TheConstants.BUFFER_LIMIT}
use Rattle.std.proofs.Common.{◌-◌, ◌≡◌}

-- what is left tells it
abbrev pub invariant-loop-index : Rattle.c104_rows.proofs.holders.output_end.Given.invariant-loop-index
invariant-loop-index l = first_end (output_tokens l.net l.switch l.link) (BUFFER_LIMIT - l.index) l.index ≡ output_end l.net l.switch l.link
