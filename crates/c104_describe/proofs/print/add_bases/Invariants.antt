use Rattle.{c104_describe.specs.PlanPrint.{base_words, text_of}, std.{proofs.Common.{drop, map, ◌++◌, ◌≡◌}, specs.String.string_bytes}}

-- the text so far and the lines that are left are what the text becomes
abbrev pub invariant-loop-base : Rattle.c104_describe.proofs.print.add_bases.Given.invariant-loop-base
invariant-loop-base l = string_bytes l.text ++ text_of (map (base_words l.plan) (drop l.base-index l.base-items)) ≡ string_bytes l.fn.text ++ text_of (map (base_words l.plan) l.plan.bases)
