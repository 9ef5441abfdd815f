use Rattle.{c104_plan.specs.declared.plans.Terminal.Terminal, std.proofs.Common.{[], map, take, ◌≡◌}}

-- the terminals so far have sent nothing
abbrev pub invariant-loop-terminal : Rattle.c104_rows.proofs.counts.new_senders.Given.invariant-loop-terminal
invariant-loop-terminal l = l.senders.items ≡ map (λ (t : Terminal). []) (take l._terminal-index l.terminals)
