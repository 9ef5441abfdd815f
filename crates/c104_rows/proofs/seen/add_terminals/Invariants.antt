use Rattle.{c104_rows.specs.States.terminal_ways, std.{proofs.Common.{◌++◌, ◌≡◌}, specs.List.{flat_map, range_with_len}}}

-- the ways so far
abbrev pub invariant-loop-terminal : Rattle.c104_rows.proofs.seen.add_terminals.Given.invariant-loop-terminal
invariant-loop-terminal l =
    l.list.items ≡ l.initial.list.items ++ flat_map (terminal_ways l.net l.still l.round) (range_with_len 0 l.terminal)
