use Rattle.{c104_describe.specs.PlanPrint.{switch_words, text_of}, std.{proofs.Common.{drop, map, ◌++◌, ◌≡◌}, specs.String.string_bytes}}

-- the text so far and the lines that are left are what the text becomes
abbrev pub invariant-loop-switch : Rattle.c104_describe.proofs.print.add_switches.Given.invariant-loop-switch
invariant-loop-switch l = string_bytes l.text ++ text_of (map switch_words (drop l.switch-index l.switch-items)) ≡ string_bytes l.fn.text ++ text_of (map switch_words l.plan.switches)
