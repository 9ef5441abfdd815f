use Rattle.{c104_rows.specs.{Numbers.each_number, Sights.terminal_seen}, c104_run.specs.NetViews.network_terminal_view}
use Rattle.std.proofs.Common.{◌≡◌}

-- those so far
abbrev pub invariant-loop-terminal : Rattle.c104_rows.proofs.sights.see_terminals.Given.invariant-loop-terminal
invariant-loop-terminal l =
    l.counts ≡ each_number (λ t. terminal_seen (network_terminal_view l.net.network t) t) l.terminal l.initial.counts
