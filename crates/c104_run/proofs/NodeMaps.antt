-- A node over other tokens: it is quiet where the node is, of the same kind, and at its start the same.
use Rattle.{c104_link.specs.Buffers.Outgoing, c104_node.specs.{MappedNodes.{map_input, map_node, map_outgoing}, Nodes.{Node, is_switch}}}
use Rattle.c104_node.specs.{Quiet.{IsQuietInput, IsQuietNode, IsQuietOutput}, Starts.start_node, declared.node.NodeOf.NodeOf}
use Rattle.{c104_node.specs.declared.starts.NodeStart.NodeStart, c104_switch.specs.{Phases.with_header, Starts.{start_input, start_output}}}
use Rattle.c104_switch.specs.{Switch.Input, declared.{link_start.LinkStart.LinkStart, phase.Phase.{Phase, TheVariants.Fresh}}}
use Rattle.std.proofs.{Common.{All, List, [], ap, arith, false, get_or, map, refl, true, ◌∷◌, ◌≡◌}, lemmas.List.Elements.All-cons}
use Rattle.std.proofs.lemmas.List.Elements.{All-head, All-map, All-nil, All-tail}

-- quiet without where tokens came from is quiet
map_none : {X Y : Type 0} (f : X → Y) (xs : List X) → map f xs ≡ [] → xs ≡ []
map_none f [] is = refl
map_none f (x ∷ xs) is = absurd (cc)

pub all_back : {X Y : Type 0} (f : X → Y) (P : X → Type 0) (Q : Y → Type 0) → ((x : X) → Q (f x) → P x) → (xs : List X) → All Q (map f xs) → All P xs
all_back f P Q back [] all = All-nil P
all_back f P Q back (x ∷ xs) all = All-cons P x xs (back x (All-head Q (f x) (map f xs) all)) (all_back f P Q back xs (All-tail Q (f x) (map f xs) all))

module _ {A B : Type 0} (f : A → B) where
  fresh_back : (p : Phase (List A)) → with_header (map f) p ≡ Fresh → p ≡ Fresh
  fresh_back p is = search arith

  input_back : (p : Input A) → IsQuietInput (map_input f p) → IsQuietInput p
  input_back p (none, fresh) = (map_none f p.buffer.items none, fresh_back p.phase fresh)

  output_back : (q : Outgoing A) → IsQuietOutput (map_outgoing f q) → IsQuietOutput q
  output_back q none = map_none f q.items none

  pub node_back : (n : Node A) → IsQuietNode (map_node f n) → IsQuietNode n
  node_back (NodeOf.Switch s) (inputs, outputs) = search (arith, all_back, input_back, output_back)
  node_back (NodeOf.Terminal t) (input, output) = (map_none f t.input.items input, map_none f t.output.items output)

-- where the nodes stand in place, so do those of the traced run
pub kinds_plain : {A B : Type 0} (f : A → B) (nodes : List (Node A)) → map is_switch (map (map_node f) nodes) ≡ map is_switch nodes
kinds_plain f [] = refl
kinds_plain f (NodeOf.Switch s ∷ nodes) = ap (λ bs. true ∷ bs) (kinds_plain f nodes)
kinds_plain f (NodeOf.Terminal t ∷ nodes) = ap (λ bs. false ∷ bs) (kinds_plain f nodes)

module _ {A B : Type 0} (f : A → B) where
  empty_map : (xs : List A) → xs ≡ [] → map f xs ≡ []
  empty_map xs e = ap (map f) e

  pub quiet_map : (n : Node A) → IsQuietNode n → IsQuietNode (map_node f n)
  quiet_map (NodeOf.Switch S) q = (
    All-map IsQuietInput (map_input f) S.inputs (λ i d inside. (empty_map (get_or S.inputs i d).buffer.items (q.0 i d inside).0, ap (with_header (map f)) (q.0 i d inside).1)),
    All-map IsQuietOutput (map_outgoing f) S.outputs (λ i d inside. empty_map (get_or S.outputs i d).items (q.1 i d inside)),
  )
  quiet_map (NodeOf.Terminal T) q = (empty_map T.input.items q.0, empty_map T.output.items q.1)

module _ {A B : Type 0} (f : A → B) where
  inputs_same : (links : List LinkStart) → map (map_input f) (map start_input links) ≡ map start_input links
  inputs_same [] = refl
  inputs_same (l ∷ links) = ap (λ z. start_input l ∷ z) (inputs_same links)

  outputs_same : (links : List LinkStart) → map (map_outgoing f) (map start_output links) ≡ map start_output links
  outputs_same [] = refl
  outputs_same (l ∷ links) = ap (λ z. start_output l ∷ z) (outputs_same links)

  pub node_same : (s : NodeStart) → map_node f (start_node s) ≡ start_node s
  node_same s = search (arith, inputs_same, outputs_same)

  -- tokens that are mapped make no other start
  pub starts_same : (starts : List NodeStart) → map (map_node f) (map start_node starts) ≡ map start_node starts
  starts_same [] = refl
  starts_same (s ∷ starts) = rw (node_same s, starts_same starts) refl
