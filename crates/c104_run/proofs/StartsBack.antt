-- A start is where a node at it stands.
use Rattle.{c104_node.specs.{Starts.{start_node, start_of}, declared.starts.NodeStart.NodeStart}, c104_switch.specs.Starts.link_starts}
use Rattle.c104_switch.specs.{Starts.{start_input, start_output}, declared.link_start.LinkStart.LinkStart}
use Rattle.{c104_token.specs.declared.tokens.Token.Token, std.proofs.Common.{List, [], ap, arith, map, refl, ◌∙◌, ◌∷◌, ◌≡◌}}

module _ (A : Type 0) where
  links_back : (links : List LinkStart) → link_starts {A = A} (map start_input links) (map start_output links) ≡ links
  links_back [] = refl
  links_back (l ∷ links) = ap (λ (ls : List LinkStart). l ∷ ls) (links_back links)

  pub start_back : (s : NodeStart) → s ≡ start_of (start_node {A = A} s)
  start_back s = search (arith, links_back)

pub starts_back : (starts : List NodeStart) → starts ≡ map start_of (map (start_node {A = Token}) starts)
starts_back [] = refl
starts_back (s ∷ starts) = ap (λ x. x ∷ starts) (start_back Token s) ∙ ap (λ xs. start_of (start_node {A = Token} s) ∷ xs) (starts_back starts)
