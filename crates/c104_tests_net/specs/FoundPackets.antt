-- What is known of the packets of a network that was quiet when it was finished.
--     AreFoundOnce routes net lists      each packet that was sent to a terminal is in its list, and none stands there twice
use Rattle.{c104_check.specs.Routes.{Routes, owner}, c104_net.specs.Deliveries.{has_header, header_of, sent_at}}
use Rattle.{c104_node.specs.declared.origins.Origin.Origin, c104_run.specs.Network.Network, c104_tests_net.specs.CalmNets.IsListed}
use Rattle.c104_token.specs.declared.{packets.Packet.Packet, tokens.Token.Token}
use Rattle.std.specs.{Global.Vec as Kept, Prelude.{List, Some, length, slice_get, true, ℕ, ◌<◌, ◌≡◌}}

pub record AreFoundOnce (routes : Routes) (net : Network Token) (lists : List (Kept Origin)) : Type 0 where
  -- each packet that was sent with the header of a terminal stands in that terminal's list
  pub found : (a n t : ℕ) (p : Packet) → t < length net.plan.terminals → slice_get (sent_at net a) n ≡ Some p → has_header routes p ≡ true → owner routes (header_of routes p) ≡ Some t → (k : ℕ) × IsListed lists t k (record { terminal = a; number = n })
  -- no packet stands at two places, of one list or of two
  pub once : (t u i j : ℕ) (o : Origin) → IsListed lists t i o → IsListed lists u j o → (t ≡ u) × (i ≡ j)
