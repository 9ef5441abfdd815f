-- Groups of links, as their settings say which links continue the group of the link before them. Past
-- the last link, none does: a number of 32 or more is in no group with a link.
use Rattle.c104_regs.specs.{Groups.continues_at, declared.settings.Settings.Settings}
use Rattle.std.specs.Prelude.{Bool, List, ℕ}
use Rattle.c104_crossbar.specs.Groups as groups

-- link o is in the group of link g
abbrev pub is_in_group : List Settings → ℕ → ℕ → Bool
is_in_group settings g o = groups.group_contains (continues_at settings) g o
