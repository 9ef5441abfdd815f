-- The lines of what terminals received, terminal by terminal.
use Rattle.{c104_net.specs.Deliveries.arrived_at, c104_node.specs.declared.traced.Traced.Traced, c104_plan.specs.Plans.Plan}
use Rattle.{c104_plan.specs.PortTexts.terminal_name, c104_run.specs.Network.Network, c104_session.specs.Shown.packets_text}
use Rattle.{c104_session.specs.Shown.terminals_text, std.proofs.Common.{List, Some, [], append_assoc, arith, drop, length, refl, slice_get}}
use Rattle.std.proofs.Common.{suc, zero, ℕ, ◌++◌, ◌+◌, ◌<◌, ◌∷◌, ◌≡◌}

-- what is left of a list begins with the element at this place
from_place : {X : Type 0} (xs : List X) (n : ℕ) → n < length xs → (x : X) × (slice_get xs n ≡ Some x) × (drop n xs ≡ x ∷ drop (suc n) xs)
from_place [] n inside = absurd (omega (arith, inside))
from_place (x ∷ xs) zero inside = (x, refl, refl)
from_place (x ∷ xs) (suc n) inside = from_place xs n (omega (arith, inside))

-- the lines of the next terminal join those so far
pub terminals_next : (plan : Plan) (net : Network Traced) (number : ℕ) (text before whole : List ℕ) → number < length plan.terminals → text ≡ before ++ packets_text plan (terminal_name plan number) (arrived_at net number) → before ++ terminals_text plan net number (drop number plan.terminals) ≡ whole → text ++ terminals_text plan net (number + 1) (drop (number + 1) plan.terminals) ≡ whole
terminals_next plan net number text before whole inside is so_far =
    let here = from_place plan.terminals number inside in
    search (arith, append_assoc)
