use Rattle.{c104_rows.specs.{Numbers.each_number, Sights.link_levels}, c104_run.specs.NetViews.network_link_view}
use Rattle.{c104_token.specs.Kinds.plain_kind, std.proofs.Common.◌≡◌}

-- those so far
abbrev pub invariant-loop-link : Rattle.c104_rows.proofs.sights.add_links.Given.invariant-loop-link
invariant-loop-link l =
    l.levels ≡ each_number (λ k. link_levels (network_link_view plain_kind l.net.network l.switch k)) l.link l.initial.levels
