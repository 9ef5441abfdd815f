-- A run that begins keeps the balance.
use Rattle.{c104_link.specs.Steps.◌>>=◌, c104_node.specs.{Nodes.{Node, is_switch}, Quiet.node_begin}}
use Rattle.{c104_node.specs.declared.node.NodeOf.TheVariants.{Switch, Terminal}, c104_run.specs.Balance.{IsSteady, credit_of, granted_of}}
use Rattle.{c104_run.specs.{Network.Network, QuietNets.network_begin}, std.proofs.Common.{List, Option, [], ap, arith, false, map}}
use Rattle.std.proofs.{Common.{option_map, refl, true, ℕ, ◌∷◌, ◌≡◌}, lemmas.Option.slice_get-map}

-- what a node forgets is nothing of its links
module _ {A : Type 0} where
  credit_kept : (l : ℕ) (o : Option (Node A)) → (option_map node_begin o >>= credit_of l) ≡ (o >>= credit_of l)
  credit_kept l o = search arith

  granted_kept : (l : ℕ) (o : Option (Node A)) → (option_map node_begin o >>= granted_of l) ≡ (o >>= granted_of l)
  granted_kept l o = search arith

  kinds_kept : (nodes : List (Node A)) → map is_switch (map node_begin nodes) ≡ map is_switch nodes
  kinds_kept [] = refl
  kinds_kept (Switch s ∷ nodes) = ap (λ bs. true ∷ bs) (kinds_kept nodes)
  kinds_kept (Terminal t ∷ nodes) = ap (λ bs. false ∷ bs) (kinds_kept nodes)

  -- so a network that begins a run stays in balance
  pub begun_steady : (net : Network A) → IsSteady net → IsSteady (network_begin net)
  begun_steady net steady = search (arith, kinds_kept, slice_get-map, credit_kept, granted_kept)
