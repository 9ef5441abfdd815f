use Rattle.{c104_rows.specs.{Counts.change_link, Links.link_cut, Numbers.each_number}, std.proofs.Common.◌≡◌}

-- those so far
abbrev pub invariant-loop-link : Rattle.c104_rows.proofs.steps.cut_links.Given.invariant-loop-link
invariant-loop-link l =
    l.links ≡ each_number (λ k rows. change_link rows l.switch k (link_cut l.round)) l.link l.initial.links
