-- What the visit's code needs, over plain variables.
use Rattle.c104_label.proofs.ForestLemmas.{grown_skip, grown_switches, grown_take, links_are, met_wired, range_step, switches_more}
use Rattle.c104_label.{proofs.ForestLemmas.{switches_room, switches_root, wire_here, wired_met}, specs.Forests.{AreInside, AreSwitches}}
use Rattle.c104_label.specs.Forests.{Ends, Forest, Grown, IsConnected, IsCutOff, IsDepthFirst, IsPassed, IsSpanning, child, ends_of, is_met}
use Rattle.c104_label.specs.{Forests.{links, switches}, Trees.{forest_of, unvisited}, declared.forests.FarEnd.FarEnd}
use Rattle.{c104_plan.specs.{Plans.Plan, Wiring.IsWiring, declared.ports.Port.Port}, std.proofs.Common.{Bool, Err, IfOk, List, MatchOption}}
use Rattle.std.proofs.Common.{None, Ok, Option, Result, Some, [], ap, arith, false, if◌then◌else◌, is_some, length, subst, sym, true, ℕ}
use Rattle.std.{proofs.{Common.{◌++◌, ◌+◌, ◌-◌, ◌<◌, ◌∙◌, ◌∷◌, ◌≡◌, ◌≤◌}, lemmas.List.length-append}, specs.List.range_with_len}
use Rattle.c104_label.specs.declared.forests.Forest as kept

abbrev rest_of : ℕ → List ℕ
rest_of l = range_with_len l (32 - l)

pub visit_skip : (E : Type 0) (ends : Ends) (seen : List ℕ) (s l : ℕ) (r : Result kept.Forest E) → l < 32 → IsPassed ends seen s l → IfOk r (λ f. Grown ends seen s (rest_of (l + 1)) (forest_of f)) → IfOk r (λ f. Grown ends seen s (rest_of l) (forest_of f))
visit_skip E ends seen s l (Ok f) below passed on = rw (range_step l below) (grown_skip ends seen s l (rest_of (l + 1)) (forest_of f) passed on)
visit_skip E ends seen s l (Err e) below passed on = tt

pub visit_take : (ends : Ends) (seen one more : List ℕ) (s l r b : ℕ) (below rest : Forest) → l < 32 → ends s l ≡ Some (Port.Switch r b) → is_met seen r ≡ false → one ≡ seen ++ (r ∷ []) → Grown ends one r (rest_of 0) below
    → more ≡ one ++ switches below → Grown ends more s (rest_of (l + 1)) rest → Grown ends seen s (rest_of l) (child l r b below rest)
visit_take ends seen one more s l r b below rest lt at new one_is down more_is on =
    let down_is : Grown ends (seen ++ (r ∷ [])) r links below = subst (λ (x : List ℕ). Grown ends x r links below) one_is (subst (λ (x : List ℕ). Grown ends one r x below) (sym links_are) down) in
    let on_is : Grown ends ((seen ++ (r ∷ [])) ++ switches below) s (rest_of (l + 1)) rest = subst (λ (x : List ℕ). Grown ends x s (rest_of (l + 1)) rest) (more_is ∙ ap (λ x. x ++ switches below) one_is) on in
    rw (range_step l lt) (grown_take ends seen s l r b (rest_of (l + 1)) below rest at new down_is on_is)

pub visit_one : (n : ℕ) (seen one : List ℕ) (s : ℕ) → AreSwitches n seen → is_met seen s ≡ false → s < n → one ≡ seen ++ (s ∷ []) → AreSwitches n one × (length one ≡ length seen + 1) × (length one ≤ n)
visit_one n seen one s are new small is =
    let more = subst (AreSwitches n) (sym is) (switches_more n seen s are new small) in
    (more, ap length is ∙ length-append seen (s ∷ []), switches_room n one more)

pub visit_more : (ends : Ends) (n : ℕ) → AreInside ends n → (one more : List ℕ) (s : ℕ) (below : Forest) → AreSwitches n one → Grown ends one s (rest_of 0) below → more ≡ one ++ switches below → AreSwitches n more × (length one ≤ length more)
visit_more ends n inputs one more s below are down is =
    let long = ap length is ∙ length-append one (switches below) in
    (subst (AreSwitches n) (sym is) (grown_switches ends n inputs below one (rest_of 0) s down are), omega (arith, long))

-- a link that leads to no switch which wasn't visited, and one that does
none_by : (met : Bool) (x : FarEnd) → (if met then None else Some x) ≡ None → met ≡ true
none_by met x is = search arith

some_by : (met : Bool) (x y : FarEnd) → (if met then None else Some x) ≡ Some y → (met ≡ false) × (x ≡ y)
some_by met x y is = search arith

passed_by : (ends : Ends) (seen : List ℕ) (s l : ℕ) (far : Option Port) → ends s l ≡ far → unvisited far seen ≡ None → IsPassed ends seen s l
passed_by ends seen s l far is none = search (arith, wire_here, none_by)

found_by : (far : Option Port) (seen : List ℕ) (x : FarEnd) → unvisited far seen ≡ Some x → (far ≡ Some (Port.Switch x.switch x.back)) × (is_met seen x.switch ≡ false)
found_by far seen x is = search (arith, some_by)

pub passed : (plan : Plan) (seen : List ℕ) (s l : ℕ) (far : Option Port) (x : Option FarEnd) → far ≡ ends_of plan s l → x ≡ unvisited far seen → x ≡ None → IsPassed (ends_of plan) seen s l
passed plan seen s l far x is by none = passed_by (ends_of plan) seen s l far (sym is) (sym by ∙ none)

pub found : (plan : Plan) (seen : List ℕ) (s l : ℕ) (far : Option Port) (x : Option FarEnd) (y : FarEnd) → far ≡ ends_of plan s l → x ≡ unvisited far seen → x ≡ Some y → (ends_of plan s l ≡ Some (Port.Switch y.switch y.back)) × (is_met seen y.switch ≡ false)
found plan seen s l far x y is by at = let both = found_by far seen y (sym by ∙ at) in (sym is ∙ both.0, both.1)

-- at the root

pub visit_root : (n root : ℕ) (empty one : List ℕ) → root < n → empty ≡ [] → one ≡ empty ++ (root ∷ []) → AreSwitches n one
visit_root n root empty one small none is = subst (AreSwitches n) (sym (is ∙ ap (λ x. x ++ (root ∷ [])) none)) (switches_root n root small)

pub tree_root : (E : Type 0) (ends : Ends) (root : ℕ) (empty one : List ℕ) (r : Result kept.Forest E) → empty ≡ [] → one ≡ empty ++ (root ∷ []) → IfOk r (λ f. Grown ends one root (rest_of 0) (forest_of f)) → IfOk r (λ f. IsDepthFirst ends root (forest_of f))
tree_root E ends root empty one r none is grown = search (arith, links_are)

-- wires of a plan lead to its switches
pub ends_inside : (plan : Plan) → IsWiring plan → AreInside (ends_of plan) (length plan.switches)
ends_inside plan wiring s l r b at = (wiring.inside (Port.Switch r b) (Port.Switch s l) (wiring.back (Port.Switch s l) (Port.Switch r b) at)).0

-- a tree that has all switches, and one that misses some
pub all_wired : (plan : Plan) (root : ℕ) (f : Forest) → IsSpanning plan root f → IsConnected plan root
all_wired plan root f spans s inside = met_wired (ends_of plan) root f spans.depth_first s (spans.all s inside)

pub cut_off : (plan : Plan) (root : ℕ) (f : Forest) (s : ℕ) → IsDepthFirst (ends_of plan) root f → is_met (root ∷ switches f) s ≡ false → IsCutOff (ends_of plan) root s
cut_off plan root f s grown none m wired = let e = sym (wired_met (ends_of plan) root f grown m s wired) ∙ none in absurd cc

-- what was found to be missing, or that nothing is
pub missing_is : (plan : Plan) (root : ℕ) (f : Forest) (seen : List ℕ) (n : ℕ) (first : Option ℕ) (is_there : Bool) → IsDepthFirst (ends_of plan) root f → seen ≡ root ∷ switches f → n ≡ length plan.switches
    → MatchOption first ((s : ℕ) → s < n → is_met seen s ≡ true) (λ missing. (missing < n) × (is_met seen missing ≡ false)) → is_there ≡ is_some first → is_there ≡ true
    → (s : ℕ) × (s < length plan.switches) × IsCutOff (ends_of plan) root s
missing_is plan root f seen n None is_there grown is all found test holds = let e : false ≡ true = sym test ∙ holds in absurd cc
missing_is plan root f seen n (Some s) is_there grown is all found test holds =
    (s, subst (λ k. s < k) all found.0, cut_off plan root f s grown (subst (λ xs. is_met xs s ≡ false) is found.1))

pub none_missing : (plan : Plan) (root : ℕ) (f : Forest) (seen : List ℕ) (n : ℕ) (first : Option ℕ) (is_there : Bool) → IsDepthFirst (ends_of plan) root f → seen ≡ root ∷ switches f → n ≡ length plan.switches
    → MatchOption first ((s : ℕ) → s < n → is_met seen s ≡ true) (λ missing. (missing < n) × (is_met seen missing ≡ false)) → is_there ≡ is_some first → is_there ≡ false → IsSpanning plan root f
none_missing plan root f seen n (Some s) is_there grown is all found test fails = let e : true ≡ false = sym test ∙ fails in absurd cc
none_missing plan root f seen n None is_there grown is all found test fails = record {
  depth_first = grown;
  all = λ s inside. subst (λ xs. is_met xs s ≡ true) is (found s (subst (λ k. s < k) (sym all) inside));
}
