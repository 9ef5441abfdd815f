-- The table of wires: the far end of the wire at each port.
use Rattle.{c104_node.specs.declared.ends.End.End, c104_plan.specs.{Plans.Plan, Ports.is_port, Wiring.peer, declared.ports.Port.Port}}
use Rattle.{c104_plan.specs.declared.ports.Wire.Wire, c104_regs.specs.declared.registers.TheConstants.LINKS, c104_run.specs.Ends.end_of}
use Rattle.std.specs.{List.range_with_len, Prelude.{List, None, Option, Some, [], if◌then◌else◌, length, map, option_map, ℕ, ◌%◌, ◌*◌, ◌/◌}}
use Rattle.std.specs.Prelude.{◌∷◌}

-- the far end of the wire at a port, if it has one
abbrev pub far_end : Plan → Port → Option End
far_end plan p = option_map (end_of plan) (peer plan p)

-- the far ends of all links, by switch and link: that of link l of switch s is at place 32 s + l
abbrev pub link_ends : Plan → List (Option End)
link_ends plan =
    map (λ place. far_end plan (Port.Switch (place / LINKS) (place % LINKS)))
    (range_with_len 0 (length plan.switches * LINKS))

-- the far ends of the terminals, in order
abbrev pub terminal_ends : Plan → List (Option End)
terminal_ends plan =
    map (λ t. far_end plan (Port.Terminal t)) (range_with_len 0 (length plan.terminals))

-- The table, made one wire after the other

-- the far end at each port, once that at one more is known
abbrev pub with_end : (Port → Option End) → Port → End → Port → Option End
with_end far at e p = if is_port at p then Some e else far p

-- the far end at each port by some wires, the first of which counts
abbrev pub end_by : Plan → List Wire → Port → Option End
end_by plan [] p = None
end_by plan (w ∷ ws) p =
    with_end (with_end (end_by plan ws) w.there (end_of plan w.here)) w.here (end_of plan w.there) p

-- the far ends of all links of n switches, where this tells that at each port
abbrev pub ends_by : (Port → Option End) → ℕ → List (Option End)
ends_by far n = map (λ place. far (Port.Switch (place / LINKS) (place % LINKS))) (range_with_len 0 (n * LINKS))
