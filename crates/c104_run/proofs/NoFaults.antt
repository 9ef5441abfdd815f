-- What it says that there is no fault: a node is there, and a link.
use Rattle.{c104_event.specs.declared.faults.EventFault.EventFault, c104_run.specs.Network.{link_fault, node_fault}, std.proofs.Common.Bool}
use Rattle.std.proofs.{Common.{None, Option, Some, arith, if◌then◌else◌, nat_lt, refl, ℕ, ◌<◌, ◌≡◌}, lemmas.Bool.Decides.nat_tests}

module _ (other : Option EventFault) where
  -- where a number isn't below another, there is a fault
  below : (count n : ℕ) (f : EventFault) (inside : Bool) → nat_lt n count ≡ inside → (if inside then other else Some f) ≡ None → n < count
  below count n f inside is none = search (arith, nat_tests)

  past : (f : EventFault) (inside : Bool) → (if inside then other else Some f) ≡ None → other ≡ None
  past f inside is = search arith

  pub node_there : (count n : ℕ) → node_fault count n other ≡ None → n < count
  node_there count n is = below count n EventFault.NoNode (nat_lt n count) refl is

  pub past_node : (count n : ℕ) → node_fault count n other ≡ None → other ≡ None
  past_node count n is = past EventFault.NoNode (nat_lt n count) is

  pub link_there : (l : ℕ) → link_fault l other ≡ None → l < 32
  link_there l is = below 32 l EventFault.NoLink (nat_lt l 32) refl is

  pub past_link : (l : ℕ) → link_fault l other ≡ None → other ≡ None
  past_link l is = past EventFault.NoLink (nat_lt l 32) is
