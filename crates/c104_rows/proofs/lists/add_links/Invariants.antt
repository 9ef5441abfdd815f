use Rattle.{c104_rows.specs.Lists.switch_links, std.proofs.Common.{drop, ◌++◌, ◌≡◌}}

-- the links so far and those that are left are all
abbrev pub invariant-loop-place : Rattle.c104_rows.proofs.lists.add_links.Given.invariant-loop-place
invariant-loop-place l =
    l.list.items ++ switch_links l.plan l.last l.place (drop l.place l.links)
    ≡ l.initial.list.items ++ switch_links l.plan l.last 0 l.links
