use Rattle.{c104_describe.specs.PlanPrint.{continue_words, text_of}, std.{proofs.Common.{drop, map, ◌++◌, ◌≡◌}, specs.String.string_bytes}}

-- the text so far and the lines that are left are what the text becomes
abbrev pub invariant-loop-port : Rattle.c104_describe.proofs.print.add_continues.Given.invariant-loop-port
invariant-loop-port l = string_bytes l.text ++ text_of (map (continue_words l.plan) (drop l.port-index l.port-items)) ≡ string_bytes l.fn.text ++ text_of (map (continue_words l.plan) l.plan.continues)
