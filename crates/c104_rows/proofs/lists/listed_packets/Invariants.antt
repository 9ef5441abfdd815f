use Rattle.{c104_rows.specs.Lists.senders_from, std.proofs.Common.{drop, ◌++◌, ◌≡◌}}

-- the packets so far and those that are left are all
abbrev pub invariant-loop-terminal : Rattle.c104_rows.proofs.lists.listed_packets.Given.invariant-loop-terminal
invariant-loop-terminal l =
    l.list.items ++ senders_from l.header l.terminal (drop l.terminal l.senders)
    ≡ senders_from l.header 0 l.senders
