-- Which links of a place have wires, where that is kept.
use Rattle.c104_node.specs.{ActLinks.on_links, Places.PlaceBase, Traces.part, declared.acts.ActOf.ActOf}
use Rattle.std.specs.Prelude.{Bool, List, slice_get, true, ℕ}

-- whether a link may have a wire
abbrev pub links_of : PlaceBase → ℕ → Bool
links_of b l = part true (λ (wired : ℕ → Bool). wired l) b.wired

-- whether an act goes over no link, or over one that may
abbrev pub is_linked : {A : Type 0} → PlaceBase → ActOf A → Bool
is_linked b a = on_links (links_of b) a

-- the same of the place at this number
abbrev pub links_at : List PlaceBase → ℕ → ℕ → Bool
links_at bases k l = part true (λ (b : PlaceBase). links_of b l) (slice_get bases k)

abbrev pub is_linked_at : {A : Type 0} → List PlaceBase → ℕ → ActOf A → Bool
is_linked_at bases k a = on_links (links_at bases k) a
