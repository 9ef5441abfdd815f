-- What is kept of a run for its tables, beside its packets and the tokens that cross its links.
--     wanted_of each tables      what is kept for these tables, and whether how the network stands is kept of each round
pub use Rattle.c104_rows.specs.declared.tables.{Table.Table, Wanted.Wanted}
use Rattle.std.specs.Prelude.{Bool, List, [], false, true, ◌∷◌}

abbrev pub wanted_with : Bool → Wanted → Table → Wanted
wanted_with each w Table.Packets = w
wanted_with each w Table.Links = record w { links = true }
wanted_with each w Table.Rounds = record w { rounds = true }
wanted_with each w Table.Run = w
wanted_with each w Table.Holds = record w { holds = true }
wanted_with each w Table.Ways = record w { states = true; each = each }
wanted_with each w Table.Wishes = record w { states = true; each = each }

abbrev pub nothing_wanted : Wanted
nothing_wanted = record { links = false; rounds = false; holds = false; states = false; each = false }

abbrev pub wanted_behind : Bool → Wanted → List Table → Wanted
wanted_behind each w [] = w
wanted_behind each w (table ∷ tables) = wanted_behind each (wanted_with each w table) tables

abbrev pub wanted_of : Bool → List Table → Wanted
wanted_of each tables = wanted_behind each nothing_wanted tables
