-- A port of a switch is linked where a terminal or a wire has it.
use Rattle.c104_plan.{proofs.PortLemmas.list_any-map, specs.{Plans.{Plan, host_port, is_linked}, Ports.{Port, Wire, both_ends, is_any_at}}}
use Rattle.{c104_plan.specs.Ports.is_port, std.proofs.Common.{Bool, List, [], ap, arith, refl, ◌||◌, ◌∙◌, ◌∷◌, ◌≡◌}}
use Rattle.std.{proofs.lemmas.List.Folds.list_any-append, specs.List.list_any}

or_assoc : (a b c : Bool) → (a || (b || c)) ≡ ((a || b) || c)
or_assoc a b c = search arith

wires_have : (ws : List Wire) (p : Port) → list_any (λ q. is_port q p) (both_ends ws) ≡ list_any (λ (w : Wire). is_port w.here p || is_port w.there p) ws
wires_have [] p = refl
wires_have (w ∷ ws) p = ap (λ rest. is_port w.here p || (is_port w.there p || rest)) (wires_have ws p) ∙ or_assoc (is_port w.here p) (is_port w.there p) _

pub linked_either : (plan : Plan) (p : Port) → is_linked plan p ≡ (is_any_at host_port plan.terminals p || list_any (λ (w : Wire). is_port w.here p || is_port w.there p) plan.wires)
unfolding is_linked is_any_at
linked_either plan p = search (arith, list_any-append, list_any-map, wires_have)
