use Rattle.{c104_rows.specs.Lists.terminal_links, std.proofs.Common.{drop, ◌++◌, ◌≡◌}}

-- the links so far and those that are left are all
abbrev pub invariant-loop-terminal : Rattle.c104_rows.proofs.lists.add_wires.Given.invariant-loop-terminal
invariant-loop-terminal l =
    l.list.items ++ terminal_links l.plan l.last l.terminal (drop l.terminal l.wires)
    ≡ l.initial.list.items ++ terminal_links l.plan l.last 0 l.wires
