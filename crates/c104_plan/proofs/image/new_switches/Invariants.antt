use Rattle.{c104_regs.specs.Registers.reset_bank, std.proofs.Common.{map, take, ◌≡◌}}

-- the switches so far are made
abbrev pub invariant-loop-name : Rattle.c104_plan.proofs.image.new_switches.Given.invariant-loop-name
invariant-loop-name l = l.switches.items ≡ map (λ name. reset_bank.settings) (take l._name-index l._name-items)
