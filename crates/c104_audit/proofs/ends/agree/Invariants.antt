use Rattle.{c104_audit.specs.{Audits.AgreeOneByOne, Tests.passing}, std.proofs.Common.{drop, ◌↔◌}}

-- what is left agrees where all does
abbrev pub invariant-loop-entry : Rattle.c104_audit.proofs.ends.agree.Given.invariant-loop-entry
invariant-loop-entry l =
    AgreeOneByOne (passing l.switches l.here (drop l.entry-index l.trace)) (passing l.switches l.there (drop l.behind l.far_trace))
    ↔ AgreeOneByOne (passing l.switches l.here l.trace) (passing l.switches l.there l.far_trace)
