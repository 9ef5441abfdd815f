use Rattle.{c104_commands.specs.CycleTexts.spaced_dependency, std.proofs.Common.{codes, flat_map, take, ◌++◌, ◌≡◌}}
use Rattle.std.specs.String.{string_bytes}

-- the inputs so far are written
abbrev pub invariant-loop-dependency : Rattle.c104_commands.proofs.cycle_texts.cycle_text.Given.invariant-loop-dependency
invariant-loop-dependency l = string_bytes l.text ≡ codes "cycle" ++ flat_map (spaced_dependency l.plan) (take l.dependency-index l.cycle)
