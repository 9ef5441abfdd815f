use Rattle.{c104_commands.specs.CycleTexts.edges_text, std.{proofs.Common.{take, ◌≡◌}, specs.String.string_bytes}}

-- the lines so far are written
abbrev pub invariant-loop-edge : Rattle.c104_commands.proofs.cycle_texts.edges_text.Given.invariant-loop-edge
invariant-loop-edge l = string_bytes l.text ≡ edges_text l.plan (take l.edge-index l.edges)
