-- A switch at a start tells that start.
use Rattle.c104_switch.specs.Starts.{SwitchStart, link_starts, start_input, start_output, start_switch, switch_start}
use Rattle.{c104_switch.specs.declared.link_start.LinkStart.LinkStart, c104_token.specs.declared.tokens.Token.Token, std.proofs.Common.List}
use Rattle.std.proofs.Common.{[], ap, map, refl, ◌∷◌, ◌≡◌}

links_back : (links : List LinkStart) → link_starts {A = Token} (map start_input links) (map start_output links) ≡ links
links_back [] = refl
links_back (l ∷ links) = ap (λ (ls : List LinkStart). l ∷ ls) (links_back links)

pub switch_back : (s : SwitchStart) → switch_start {A = Token} (start_switch s) ≡ s
switch_back s = ap (λ (ls : List LinkStart). record s { links = ls }) (links_back s.links)
