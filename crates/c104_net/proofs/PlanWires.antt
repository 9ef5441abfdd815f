-- A plan's wires as the invariant reads them, and the nodes at their ends.
use Rattle.{c104_net.proofs.{LinkActs.Matches, PacketInvariant.{IsWired, beside}}, c104_node.specs.{Nodes.{Node, is_switch}, Traces.part}}
use Rattle.{c104_node.specs.declared.node.NodeOf.NodeOf, c104_plan.{proofs.{PortLemmas.is_port-ne, Wires.wiring}, specs.Plans.IsPlan}}
use Rattle.c104_plan.specs.{Plans.Plan, Ports.{AreApart, is_port}, Wiring.peer, declared.ports.Port.Port}
use Rattle.c104_run.proofs.{BalancePlaces.switches_first, BalanceWires.{peer_back, switch_inside}, RecordSteps.nodes_counted}
use Rattle.{c104_run.{proofs.RunRecords.in_place, specs.{Balance.AreInPlace, Ends.end_of, Network.terminal_place}}, std.proofs.Common.List}
use Rattle.std.proofs.Common.{Some, ap, arith, false, inl, inr, length, nat_lt, refl, slice_get, sym, ℕ, ◌<◌, ◌∙◌, ◌≡◌}
use Rattle.std.proofs.lemmas.{Bool.{Decides.nat_tests, true≢false}, Option.{slice_get_cases, slice_get_within}}

module _ (plan : Plan) (is_plan : IsPlan plan) where
  pub wired : IsWired (peer plan)
  wired = record { back = peer_back plan is_plan; apart = λ Q R o e. no_self Q R o ((wiring plan is_plan).apart (beside Q o) R e) }
    where
      no_self : (Q R : Port) (o : ℕ) → AreApart (beside Q o) R → is_port R Q ≡ false
      no_self (Port.Switch s i) (Port.Switch s' i') o h = is_port-ne (Port.Switch s' i') (Port.Switch s i) (λ e. h (sym (cc)))
      no_self (Port.Terminal t) (Port.Terminal u) o h = absurd h
      no_self Q R o h = refl

-- what stands after the switches is terminals
last_false : {A : Type 0} (plan : Plan) (nodes : List (Node A)) (t : ℕ) (n : Node A) → AreInPlace plan nodes → slice_get nodes (terminal_place plan t) ≡ Some n → (is_switch n ≡ false) × (t < length plan.terminals)
last_false plan nodes t n placed at =
    let behind : nat_lt (terminal_place plan t) (length plan.switches) ≡ false = grind (arith, nat_tests) in
    let counted = nodes_counted plan nodes placed in
    let within = slice_get_within nodes (terminal_place plan t) n at in
    (sym (ap (part false is_switch) at) ∙ in_place plan nodes placed (terminal_place plan t) ∙ behind, omega (arith, counted, within))

module _ {A : Type 0} (plan : Plan) (is_plan : IsPlan plan) (nodes : List (Node A)) (placed : AreInPlace plan nodes) where
  matches_terminal : (t : ℕ) (n : Node A) → slice_get nodes (terminal_place plan t) ≡ Some n → Matches (Port.Terminal t) n
  matches_terminal t (NodeOf.Switch S) e = true≢false (last_false plan nodes t (NodeOf.Switch S) placed e).0
  matches_terminal t (NodeOf.Terminal T) e = tt

  matches_switch : (s l : ℕ) (n : Node A) → s < length plan.switches → slice_get nodes s ≡ Some n → Matches (Port.Switch s l) n
  matches_switch s l (NodeOf.Switch S) h e = tt
  matches_switch s l (NodeOf.Terminal T) h e = true≢false (sym (switches_first plan nodes placed s (NodeOf.Terminal T) h e))

  -- the node of a port that is wired is of the port's kind
  pub matches : (P Q : Port) (n : Node A) → peer plan P ≡ Some Q → slice_get nodes (end_of plan P).node ≡ Some n → Matches P n
  matches P Q n w e = search (arith, matches_switch, switch_inside, matches_terminal)

  -- a terminal's node is one of a terminal of the plan, which has a wire to a switch
  pub host_of : (t : ℕ) (n : Node A) → slice_get nodes (terminal_place plan t) ≡ Some n → (s : ℕ) × (i : ℕ) × (peer plan (Port.Terminal t) ≡ Some (Port.Switch s i))
  host_of t n e =
      let inside = (last_false plan nodes t n placed e).1 in
      elim (slice_get_cases plan.terminals t).1 [
        | inl found ↦ (found.0.switch, found.0.link, (wiring plan is_plan).host t found.0 found.2)
        | inr past ↦ absurd (omega (arith, inside, past.0))
      ]
