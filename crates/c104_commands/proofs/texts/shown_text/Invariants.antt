use Rattle.{c104_commands.specs.CheckTexts.spaced_port, c104_plan.specs.PortTexts.terminal_name, std.proofs.Common.{codes, flat_map, take}}
use Rattle.std.{proofs.Common.{◌++◌, ◌≡◌}, specs.{Fmt.decimal, String.string_bytes}}

-- the inputs so far are written
abbrev pub invariant-loop-port : Rattle.c104_commands.proofs.texts.shown_text.Given.invariant-loop-port
invariant-loop-port l = string_bytes l.text ≡ (codes "from " ++ (terminal_name l.plan l.shown.entry ++ (codes " header " ++ (decimal l.shown.header ++ codes " walk")))) ++ flat_map (spaced_port l.plan) (take l.port-index l.port-items)
