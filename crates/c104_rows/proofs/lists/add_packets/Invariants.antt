use Rattle.{c104_rows.specs.Lists.packets_from, std.proofs.Common.{drop, ◌++◌, ◌≡◌}}

-- the packets so far and those that are left are all
abbrev pub invariant-loop-number : Rattle.c104_rows.proofs.lists.add_packets.Given.invariant-loop-number
invariant-loop-number l =
    l.list.items ++ packets_from l.header l.terminal l.number (drop l.number l.packets)
    ≡ l.initial.list.items ++ packets_from l.header l.terminal 0 l.packets
