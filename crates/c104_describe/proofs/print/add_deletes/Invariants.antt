use Rattle.{c104_describe.specs.PlanPrint.{delete_words, text_of}, std.{proofs.Common.{drop, map, ◌++◌, ◌≡◌}, specs.String.string_bytes}}

-- the text so far and the lines that are left are what the text becomes
abbrev pub invariant-loop-terminal : Rattle.c104_describe.proofs.print.add_deletes.Given.invariant-loop-terminal
invariant-loop-terminal l = string_bytes l.text ++ text_of (map (delete_words l.plan) (drop l.terminal-index l.terminal-items)) ≡ string_bytes l.fn.text ++ text_of (map (delete_words l.plan) l.plan.deletes)
