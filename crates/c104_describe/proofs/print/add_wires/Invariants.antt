use Rattle.{c104_describe.specs.PlanPrint.{text_of, wire_words}, std.{proofs.Common.{drop, map, ◌++◌, ◌≡◌}, specs.String.string_bytes}}

-- the text so far and the lines that are left are what the text becomes
abbrev pub invariant-loop-wire : Rattle.c104_describe.proofs.print.add_wires.Given.invariant-loop-wire
invariant-loop-wire l = string_bytes l.text ++ text_of (map (wire_words l.plan) (drop l.wire-index l.wire-items)) ≡ string_bytes l.fn.text ++ text_of (map (wire_words l.plan) l.plan.wires)
