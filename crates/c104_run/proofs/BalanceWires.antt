-- The wires of a plan: each has two ends, and no two ports that have a wire stand at one end.
use Rattle.{c104_node.specs.declared.ends.End.End, c104_plan.proofs.{PortLemmas.{cases_port, is_port-refl}, Wires.wiring}}
use Rattle.c104_plan.specs.{Plans.{IsPlan, Plan}, Ports.IsSwitchPort, Wiring.{IsPlanPort, peer}, declared.ports.Port.Port}
use Rattle.{c104_run.specs.{Ends.end_of, FarEnds.far_end}, std.proofs.Common.{Some, arith, length, sym, ℕ, ◌<◌, ◌∙◌, ◌≡◌, ◌≢◌, ◌⊎◌}}
use Rattle.std.proofs.lemmas.{Bool.cases_eq, Option.same_Some}
use Rattle.c104_plan.specs.Ports as ports

-- two ports are one, or they differ
pub port_cases : (p q : Port) → (p ≡ q) ⊎ (p ≢ q)
port_cases p q = search (arith, cases_port, is_port-refl)

-- two ends of wires that are two: at two nodes, or at two links of one of the first nodes, the switches
abbrev pub AreApart : ℕ → End → End → Type 0
AreApart count e f = (e.node ≢ f.node) ⊎ ((f.node < count) × (e.link ≢ f.link))

module _ (plan : Plan) (is_plan : IsPlan plan) where
  -- a wire has two ends
  pub peer_back : (p q : Port) → peer plan p ≡ Some q → peer plan q ≡ Some p
  peer_back p q is = (wiring plan is_plan).back p q is

  -- ports with one other end are one port
  pub peer_one : (p p' q : Port) → peer plan p ≡ Some q → peer plan p' ≡ Some q → p ≡ p'
  peer_one p p' q is is' = same_Some _ _ (sym (peer_back p q is) ∙ peer_back p' q is')

  -- a switch's port that has a wire is one of the plan's ports
  pub switch_inside : (s l : ℕ) (q : Port) → peer plan (Port.Switch s l) ≡ Some q → IsSwitchPort (length plan.switches) (Port.Switch s l)
  switch_inside s l q is = (wiring plan is_plan).inside (Port.Switch s l) q is

  -- a terminal's port that has a wire is one of the plan's terminals
  pub terminal_inside : (t : ℕ) (q : Port) → peer plan (Port.Terminal t) ≡ Some q → t < length plan.terminals
  terminal_inside t q is = (wiring plan is_plan).inside (Port.Terminal t) q is

  -- the ends of two ports that have wires are two
  pub ends_apart : (p q p' q' : Port) → peer plan p ≡ Some q → peer plan p' ≡ Some q' → p ≢ p' → AreApart (length plan.switches) (end_of plan p) (end_of plan p')
  ends_apart p q p' q' is is' differ = search (arith, cases_eq, switch_inside)

  -- the two ends of a wire are at two nodes
  pub nodes_apart : (p q : Port) → peer plan p ≡ Some q → (end_of plan p).node ≢ (end_of plan q).node
  nodes_apart p q is = by_ports p q ((wiring plan is_plan).apart p q is) ((wiring plan is_plan).inside p q is) ((wiring plan is_plan).inside q p (peer_back p q is))
    where
      by_ports : (p q : Port) → ports.AreApart p q → IsPlanPort plan p → IsPlanPort plan q → (end_of plan p).node ≢ (end_of plan q).node
      by_ports p q apart near far = search arith

  -- the same of the far end as the table has it
  pub far_apart : (p : Port) (near far : End) → near ≡ end_of plan p → far_end plan p ≡ Some far → near.node ≢ far.node
  far_apart p near far at_near at_far = search (arith, nodes_apart)
