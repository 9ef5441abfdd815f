use Rattle.{c104_audit.specs.{Audits.lists_leads, Firsts.lower_of, Tests.{lead_in, strays}}, std.proofs.Common.{drop, map, ◌≡◌}}

-- the first so far, and that of what is left, is the first of all
abbrev pub invariant-loop-lead : Rattle.c104_audit.proofs.seats.first_stray.Given.invariant-loop-lead
invariant-loop-lead l = lower_of l.first (strays l.count (map (lead_in l.lists.traces) (drop l.lead-index l.leads))) ≡ strays l.count (lists_leads l.lists)
