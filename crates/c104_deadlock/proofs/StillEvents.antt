-- Networks that stand still, event by event.
use Rattle.{c104_event.specs.declared.events.Event.Event, c104_plan.specs.{Wiring.peer, declared.ports.Port.Port}}
use Rattle.{c104_regs.specs.declared.registers.TheConstants.LINKS, c104_run.specs.{Network.Network, Standstill.IsUnready}}
use Rattle.{c104_token.specs.Kinds.Kind, std.proofs.Common.{Some, length, ℕ, ◌<◌, ◌≡◌}}

-- no event of a round can be done
pub record IsStill {A : Type 0} (kind : Kind A) (net : Network A) : Type 0 where
  pub credits : (p q : Port) → peer net.plan p ≡ Some q → IsUnready kind net (Event.Credit p)
  pub crosses : (p q : Port) → peer net.plan p ≡ Some q → IsUnready kind net (Event.Cross p)
  pub inputs : (s l : ℕ) (q : Port) → peer net.plan (Port.Switch s l) ≡ Some q → IsUnready kind net (Event.Input s l 0)
  pub claims : (s i o : ℕ) → s < length net.plan.switches → i < LINKS → o < LINKS → IsUnready kind net (Event.Claim s i o)
  pub drains : (t : ℕ) → t < length net.plan.terminals → IsUnready kind net (Event.Drain t)
