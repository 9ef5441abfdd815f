use Rattle.{c104_describe.specs.PlanPrint.{tables_lines, text_of}, std.{proofs.Common.{◌++◌, ◌≡◌}, specs.String.string_bytes}}

-- the lines of the switches so far are there
abbrev pub invariant-loop-switch : Rattle.c104_describe.proofs.print_tables.add_tables.Given.invariant-loop-switch
invariant-loop-switch l = string_bytes l.text ≡ string_bytes l.fn.text ++ text_of (tables_lines l.plan l.switch)
