-- What a run leaves: the terminals stand after the switches, each at its place.
use Rattle.{c104_link.specs.Steps.◌>>=◌, c104_node.specs.Nodes.{Node, is_switch, node_arrived, terminals_of}}
use Rattle.{c104_node.specs.declared.node.NodeOf.TheVariants.{Switch, Terminal}, c104_plan.specs.Plans.Plan}
use Rattle.c104_run.specs.{Balance.AreInPlace, Finished.{network_finish, run_arrived}, Network.{Network, network_arrived}}
use Rattle.std.proofs.Common.{Bool, List, Option, Some, [], ap, arith, false, length, map, refl, replicate, slice_get, suc, sym, true, zero}
use Rattle.std.proofs.{Common.{ℕ, ◌++◌, ◌+◌, ◌∙◌, ◌∷◌, ◌≡◌}, lemmas.{Bool.Decides.nat_tests, Option.slice_get_past}}
use Rattle.c104_node.specs.Terminals as terminal

module _ {A : Type 0} where
  -- the terminals among nodes one after the other
  pub terminals_append : (ms ns : List (Node A)) → terminals_of (ms ++ ns) ≡ terminals_of ms ++ terminals_of ns
  terminals_append [] ns = refl
  terminals_append (Switch s ∷ ms) ns = terminals_append ms ns
  terminals_append (Terminal t ∷ ms) ns = ap (λ ts. t ∷ ts) (terminals_append ms ns)

  -- the last node leaves
  pub terminals_popped : (list rest : List (Node A)) (n : Node A) (back : List (terminal.Terminal A)) → list ≡ rest ++ n ∷ [] → back ≡ terminals_of (n ∷ []) → terminals_of list ≡ terminals_of rest ++ back
  terminals_popped list rest n back is gives = ap terminals_of is ∙ terminals_append rest (n ∷ []) ∙ ap (λ ts. terminals_of rest ++ ts) (sym gives)

  -- how many terminals there are
  count_terminals : (a b : ℕ) (nodes : List (Node A)) → map is_switch nodes ≡ replicate a true ++ replicate b false → length (terminals_of nodes) ≡ b
  count_terminals zero zero [] are = refl
  count_terminals zero (suc b) (Terminal t ∷ nodes) are = ap suc (count_terminals zero b nodes (let rest : map is_switch nodes ≡ replicate b false = cc in rest))
  count_terminals (suc a) b (Switch s ∷ nodes) are = count_terminals a b nodes (let rest : map is_switch nodes ≡ replicate a true ++ replicate b false = cc in rest)
  count_terminals a b nodes are = cc

  -- what had arrived there
  abbrev arrived_from : Option (terminal.Terminal A) → Option (List A)
  arrived_from found = found >>= (λ t. Some t.arrived)

  among_terminals : (b : ℕ) (nodes : List (Node A)) → map is_switch nodes ≡ replicate b false → (t : ℕ) → arrived_from (slice_get (terminals_of nodes) t) ≡ (slice_get nodes t >>= node_arrived)
  among_terminals b [] are t = refl
  among_terminals (suc b) (Terminal x ∷ nodes) are zero = refl
  among_terminals (suc b) (Terminal x ∷ nodes) are (suc t) = among_terminals b nodes (let rest : map is_switch nodes ≡ replicate b false = cc in rest) t
  among_terminals b nodes are t = cc

  among_nodes : (a b : ℕ) (nodes : List (Node A)) → map is_switch nodes ≡ replicate a true ++ replicate b false → (t : ℕ) → arrived_from (slice_get (terminals_of nodes) t) ≡ (slice_get nodes (a + t) >>= node_arrived)
  among_nodes zero b nodes are t = among_terminals b nodes are t ∙ ap (λ k. slice_get nodes k >>= node_arrived) (let same : t ≡ 0 + t = omega arith in same)
  among_nodes (suc a) b [] are t = absurd (let no : ◌≡◌ {A = List Bool} [] (true ∷ replicate a true ++ replicate b false) = are in cc)
  among_nodes (suc a) b (Switch s ∷ nodes) are t = among_nodes a b nodes (let rest : map is_switch nodes ≡ replicate a true ++ replicate b false = cc in rest) t ∙ ap (λ k. slice_get (Switch s ∷ nodes) k >>= node_arrived) (let same : suc (a + t) ≡ suc a + t = omega arith in same)
  among_nodes (suc a) b (Terminal x ∷ nodes) are t = absurd (let no : false ≡ true = cc in cc)

  -- there is a terminal for each of the plan
  pub terminals_counted : (plan : Plan) (nodes : List (Node A)) → AreInPlace plan nodes → length (terminals_of nodes) ≡ length plan.terminals
  terminals_counted plan nodes are = count_terminals (length plan.switches) (length plan.terminals) nodes are

  -- what a run says of a terminal is what its network said
  pub arrived_same : (net : Network A) → AreInPlace net.plan net.nodes → (t : ℕ) → run_arrived (network_finish net) t ≡ network_arrived net t
  arrived_same net are t = search (arith, among_nodes, terminals_counted, slice_get_past, nat_tests)
