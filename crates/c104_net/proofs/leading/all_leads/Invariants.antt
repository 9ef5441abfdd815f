use Rattle.{c104_net.specs.{Replays.lead_event, ToldEvents.told_by}, std.proofs.Common.{drop, map, ℕ, ◌++◌, ◌≡◌}}

-- what was added, and what the traces that are left tell, is all
abbrev pub invariant-loop-place : Rattle.c104_net.proofs.leading.all_leads.Given.invariant-loop-place
invariant-loop-place l =
    (switches : ℕ) →
    map (lead_event switches l.traces) l.leads.items ++ told_by switches l.place (drop l.place l.traces)
    ≡ told_by switches 0 l.traces
