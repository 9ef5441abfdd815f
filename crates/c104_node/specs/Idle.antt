-- Nodes at which nothing of a round can begin.
use Rattle.c104_node.specs.{Acts.node_act, Nodes.{Node, node_claim}, PortParts.is_node_ready, declared.acts.ActOf.ActOf}
use Rattle.{c104_node.specs.declared.port_part.PortPart.PortPart, c104_regs.specs.declared.registers.TheConstants.LINKS}
use Rattle.c104_token.specs.Kinds.{Kind}
use Rattle.std.specs.Prelude.{Bool, None, false, is_some, true, ℕ, ◌<◌, ◌≡◌}

-- nothing of a round can begin at a node whose wired links are these: as a switch it is ready for the act of no part at
-- any of them, and none of its inputs claims an output; and as a terminal it neither grants nor sends, and nothing arrives
pub record IsIdleNode {A : Type 0} (kind : Kind A) (wired : ℕ → Bool) (n : Node A) : Type 0 where
  pub links : (part : PortPart) (l : ℕ) → wired l ≡ true → is_node_ready kind part l n ≡ false
  pub claims : (i o : ℕ) → i < LINKS → node_claim i o n ≡ None
  pub grants : is_some (node_act kind 0 ActOf.CreditOut n) ≡ false
  pub leaves : is_some (node_act kind 0 ActOf.Leave n) ≡ false
  pub drains : (number : ℕ) → is_some (node_act kind number ActOf.Drain n) ≡ false
