use Rattle.{c104_session.specs.FoundRegisters.{addresses_from, differences_at}, std.proofs.Common.{◌++◌, ◌≡◌}}

-- the registers so far, and those of the addresses that are left, are all
abbrev pub invariant-loop-addr : Rattle.c104_session.proofs.found_registers.add_named.Given.invariant-loop-addr
invariant-loop-addr l = l.list.items ++ differences_at l.net.network l.switch l.name l.kept (addresses_from l.addr) ≡ l.initial.list.items ++ differences_at l.net.network l.switch l.name l.kept (addresses_from 0)
