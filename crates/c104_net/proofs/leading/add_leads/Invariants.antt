use Rattle.{c104_net.specs.{Leading.led_events, Replays.lead_event}, c104_node.specs.declared.acts.Entry.Entry, std.proofs.Common.List}
use Rattle.std.proofs.Common.{Some, drop, map, slice_get, ℕ, ◌++◌, ◌≡◌}

-- what was added, and what the entries that are left tell, is all
abbrev pub invariant-loop-at : Rattle.c104_net.proofs.leading.add_leads.Given.invariant-loop-at
invariant-loop-at l =
    (switches : ℕ) (traces : List (List Entry)) → slice_get traces l.place ≡ Some l.trace →
    map (lead_event switches traces) l.leads.items ++ led_events switches l.place (drop l.at l.trace)
    ≡ map (lead_event switches traces) l.initial.leads.items ++ led_events switches l.place l.trace
