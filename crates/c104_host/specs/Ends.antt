-- How the reading of a text ended.
use Rattle.c104_host.specs.declared.held.TextEnd.{TextEnd}
use Rattle.std.specs.Prelude.{Bool, false, true}

-- whether no fault follows the bytes
abbrev pub is_whole : TextEnd → Bool
is_whole TextEnd.Whole = true
is_whole (TextEnd.Fault number) = false
