-- How a text names the switches, the terminals and the ports of a plan, and what a row selects.
use Rattle.{c104_interval.specs.declared.intervals.Select.{Select, TheVariants.{Discard, Link, Sink}}, c104_plan.specs.Plans.Plan}
use Rattle.c104_plan.specs.{Plans.Terminal, Ports.Port}
use Rattle.std.specs.{Fmt.decimal, Option.{option_map_or, unwrap_or}, Prelude.{List, [], codes, slice_get, ℕ, ◌++◌, ◌∷◌}}

-- the name of the switch of this number; where there is none, nothing
abbrev pub switch_name : Plan → ℕ → List ℕ
switch_name plan number = unwrap_or (slice_get plan.switches number) []

-- the name of the terminal of this number; where there is none, nothing
abbrev pub terminal_name : Plan → ℕ → List ℕ
terminal_name plan number = option_map_or (λ (t : Terminal). t.name) (slice_get plan.terminals number) []

-- a port of a switch: its name, a dot (0x2e) and the link. That of a terminal, which has one link, is
-- its name, but no line of a plan has such a port
abbrev pub port_text : Plan → Port → List ℕ
port_text plan (Port.Switch s l) = switch_name plan s ++ 0x2e ∷ decimal l
port_text plan (Port.Terminal t) = terminal_name plan t

-- what a row selects
abbrev pub select_text : Select → List ℕ
select_text (Link link) = decimal link
select_text Discard = codes "discard"
select_text Sink = codes "sink"
