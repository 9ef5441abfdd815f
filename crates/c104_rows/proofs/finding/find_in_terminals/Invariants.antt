use Rattle.{c104_rows.specs.{Numbers.each_number, Sights.terminal_found}, c104_run.specs.NetViews.network_terminal_view}
use Rattle.std.proofs.Common.{◌≡◌}

-- those so far
abbrev pub invariant-loop-terminal : Rattle.c104_rows.proofs.finding.find_in_terminals.Given.invariant-loop-terminal
invariant-loop-terminal l =
    l.counts ≡ each_number (λ t. terminal_found l.net (network_terminal_view l.net.network t) t) l.terminal l.initial.counts
