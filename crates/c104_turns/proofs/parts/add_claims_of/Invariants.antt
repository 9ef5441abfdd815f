use Rattle.{c104_node.specs.Nodes.node_claim, c104_turns.{proofs.PartNumbers.left_links, specs.Parts.numbers_in}, std.proofs.Common.is_some}
use Rattle.std.proofs.Common.{◌++◌, ◌+◌, ◌-◌, ◌≡◌, ◌≤◌}
use Rattle.c104_turns.proofs.parts.add_claims_of.Given as goal

-- the outputs so far: what joined, and what the others would have join, is what all have
abbrev pub invariant-loop-output : goal.invariant-loop-output
invariant-loop-output g l =
    (l.from ≤ 32)
    × (l.ready.items ++ numbers_in (λ o. is_some (node_claim l.input o l.node)) (l.first + l.from) (left_links l.from) ≡ l.initial.ready.items ++ numbers_in (λ o. is_some (node_claim l.input o l.node)) l.first (left_links 0))

abbrev pub decreases-loop-output : goal.decreases-loop-output
decreases-loop-output g l = 32 - l.from
