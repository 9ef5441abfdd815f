use Rattle.{c104_script.specs.Script.read_script_line, c104_tests_top.specs.PrintedTexts.IsCalm, std.proofs.Common.{All, Bor, List, take}}
use Rattle.std.proofs.Common.{ℕ}

-- the lines so far are calm
abbrev pub invariant-loop-line : Rattle.c104_tests_top.proofs.printed.are_calm.Given.invariant-loop-line
invariant-loop-line l = All (λ (line : Bor (List ℕ)). IsCalm (read_script_line l.plan l.image line.now)) (take l.line-index l.lines)
