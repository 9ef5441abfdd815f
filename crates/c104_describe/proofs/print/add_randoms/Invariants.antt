use Rattle.{c104_describe.specs.PlanPrint.{random_words, text_of}, std.{proofs.Common.{drop, map, ◌++◌, ◌≡◌}, specs.String.string_bytes}}

-- the text so far and the lines that are left are what the text becomes
abbrev pub invariant-loop-random : Rattle.c104_describe.proofs.print.add_randoms.Given.invariant-loop-random
invariant-loop-random l = string_bytes l.text ++ text_of (map (random_words l.plan) (drop l.random-index l.random-items)) ≡ string_bytes l.fn.text ++ text_of (map (random_words l.plan) l.plan.randoms)
