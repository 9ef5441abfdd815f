use Rattle.{c104_session.specs.FoundRegisters.{addresses_from, told_at}, std.proofs.Common.{◌++◌, ◌≡◌}}

-- the registers so far, and those of the addresses that are left, are all
abbrev pub invariant-loop-addr : Rattle.c104_session.proofs.found_registers.add_registers.Given.invariant-loop-addr
invariant-loop-addr l = l.list.items ++ told_at l.net.network l.switch l.name (addresses_from l.addr) ≡ l.initial.list.items ++ told_at l.net.network l.switch l.name (addresses_from 0)
