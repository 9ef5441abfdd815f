use Rattle.{c104_rows.specs.{Numbers.each_number, Sights.link_found}, c104_run.specs.NetViews.network_link_view}
use Rattle.{c104_token.specs.Kinds.plain_kind, std.proofs.Common.◌≡◌}

-- those so far
abbrev pub invariant-loop-link : Rattle.c104_rows.proofs.finding.find_in_links.Given.invariant-loop-link
invariant-loop-link l =
    l.counts ≡ each_number (λ k. link_found l.net (network_link_view plain_kind l.net.network l.switch k) l.switch k) l.link l.initial.counts
