use Rattle.{c104_session.specs.FoundRegisters.differences_from, std.proofs.Common.{drop, ◌++◌, ◌≡◌}}

-- the registers so far, and those of the switches that are left, are all
abbrev pub invariant-loop-switch : Rattle.c104_session.proofs.found_registers.add_differences.Given.invariant-loop-switch
invariant-loop-switch l =
    l.list.items ++ differences_from l.net.network l.switch (drop l.switch l.image)
    ≡ l.initial.list.items ++ differences_from l.net.network 0 l.image
