use Rattle.{c104_crossbar.specs.Groups.has_bit, c104_turns.{proofs.PartNumbers.left_links, specs.Parts.{links_in, numbers_in}}}
use Rattle.std.proofs.Common.{filter, ◌++◌, ◌+◌, ◌-◌, ◌≡◌, ◌≤◌}
use Rattle.c104_turns.proofs.parts.Part.add_links.Given as goal

-- the links so far: what joined, and what the others would have join, is what all have
abbrev pub invariant-loop-link : goal.invariant-loop-link
invariant-loop-link l =
    (l.from ≤ 32) × (l.number ≤ 64 + l.from)
    × (l.ready.items ++ numbers_in (has_bit l.links) l.number (filter (has_bit l.self.wired) (left_links l.from)) ≡ l.initial.ready.items ++ numbers_in (has_bit l.links) l.first (links_in l.self.wired))

abbrev pub decreases-loop-link : goal.decreases-loop-link
decreases-loop-link l = 32 - l.from
