use Rattle.{c104_run.specs.Rounds.claims_of, c104_turns.{proofs.PartNumbers.left_links, specs.Parts.{may_begin, numbers_in}}}
use Rattle.std.{proofs.Common.{ℕ, ◌*◌, ◌++◌, ◌+◌, ◌-◌, ◌≡◌, ◌≤◌}, specs.List.flat_map}
use Rattle.c104_turns.proofs.parts.add_claims.Given as goal

-- the inputs so far: what joined, and what the others would have join, is what all have
abbrev pub invariant-loop-input : goal.invariant-loop-input
invariant-loop-input g l =
    (l.from ≤ 32)
    × ((s : ℕ) → l.ready.items ++ numbers_in (may_begin g.T.TokenKind.kind l.node) (l.first + l.from * 32) (flat_map (claims_of s) (left_links l.from)) ≡ l.initial.ready.items ++ numbers_in (may_begin g.T.TokenKind.kind l.node) l.first (flat_map (claims_of s) (left_links 0)))

abbrev pub decreases-loop-input : goal.decreases-loop-input
decreases-loop-input g l = 32 - l.from
