-- The way into a cycle of dependencies is a single one, and so is the cycle.
use Rattle.c104_check.proofs.{CycleCuts.{dependency_of, is_of_input}, ReachLemmas.input_same, TrailLemmas.is_port-false}
use Rattle.c104_check.specs.{ChannelDependencies.{ChannelDependency, DependsBy}, Checks.IsFirstLink, FirstCycles.{GoesOn, HasOneCycle}}
use Rattle.c104_check.specs.{FirstCycles.{IsWay, LeadsToCycle, inputs_of}, Routes.{Routes, SwitchPort}, Walks.{is_met, is_port}}
use Rattle.{c104_plan.specs.declared.ports.Port.Port, std.proofs.Common.{List, Some, [], ap, append-nil, append_assoc, arith, drop, false}}
use Rattle.std.proofs.Common.{inl, inr, length, position, refl, slice_index_or, subst, suc, sym, true, zero, ℕ, ◌++◌, ◌<◌, ◌||◌, ◌∙◌, ◌∷◌}
use Rattle.std.proofs.{Common.{◌≡◌, ◌≤◌}, lemmas.{Bool.{cases_lt, or_right}, List.Quantifiers.position-Some, Option.same_Some}}
use Rattle.std.specs.List.{AllByRecursion, IsDistinct}

-- a way over one input more
pub way_more : (routes : Routes) (p at next : SwitchPort) (h : ℕ) (steps : List ChannelDependency) → IsWay routes p steps at → GoesOn routes (dependency_of at h) next → IsWay routes p (steps ++ dependency_of at h ∷ []) next
way_more routes p at next h [] is goes = (next, sym is, goes, refl)
way_more routes p at next h (a ∷ steps) (q, here, first, more) goes = (q, here, first, way_more routes q at next h steps more goes)

-- what is left of inputs that differ
pub distinct_rest : (k : ℕ) (steps : List ChannelDependency) → IsDistinct is_port (inputs_of steps) → IsDistinct is_port (inputs_of (drop k steps))
unfolding IsDistinct
distinct_rest zero steps differ = differ
distinct_rest (suc k) [] differ = tt
distinct_rest (suc k) (a ∷ steps) differ = distinct_rest k steps differ.1

at_one : (P : SwitchPort → Type 0) (seen : List ChannelDependency) (b : ChannelDependency) (ys : List ChannelDependency) → AllByRecursion P (inputs_of (seen ++ b ∷ ys)) → P b.input
at_one P [] b ys all = all.0
at_one P (s ∷ seen) b ys all = at_one P seen b ys all.1

-- none of those before is the same
apart : (seen : List ChannelDependency) (b : ChannelDependency) (ys : List ChannelDependency) → IsDistinct is_port (inputs_of (seen ++ b ∷ ys)) → is_met b.input (inputs_of seen) ≡ false
unfolding IsDistinct
apart [] b ys differ = refl
apart (s ∷ seen) b ys differ =
    let other : is_port b.input s.input ≡ false = is_port-false s.input b.input (at_one (λ y. is_port s.input y ≡ false) seen b ys differ.0) in
    ap (λ t. t || is_met b.input (inputs_of seen)) other ∙ apart seen b ys differ.1

there : (at : SwitchPort) (steps : List ChannelDependency) (k : ℕ) (d : ChannelDependency) → k < length steps → is_port at (slice_index_or steps k d).input ≡ true → is_met at (inputs_of steps) ≡ true
there at [] k d below is = absurd (omega (arith, below))
there at (a ∷ steps) zero d below is = ap (λ t. t || is_met at (inputs_of steps)) is
there at (a ∷ steps) (suc k) d below is = or_right (is_port at a.input) (is_met at (inputs_of steps)) (there at steps k d (omega (arith, below)) is)

met_again : (at : SwitchPort) (steps : List ChannelDependency) (k : ℕ) → position (is_of_input at) steps ≡ Some k → is_met at (inputs_of steps) ≡ true
met_again at steps k is = let first = position-Some (is_of_input at) steps k (dependency_of at 0) is in there at steps k (dependency_of at 0) first.0 first.1

-- a way goes on from an input by one header to one other
goes_same : (routes : Routes) (p : SwitchPort) (h g : ℕ) (q r : SwitchPort) → GoesOn routes (dependency_of p h) q → GoesOn routes (dependency_of p g) r → (h ≡ g) × (q ≡ r)
goes_same routes p h g q r x y =
    let low : x.link ≤ y.link = elim (cases_lt y.link x.link) [
      | inl less ↦ absurd (x.lowest y.link r less y.over (g, y.most.0) y.leads)
      | inr not ↦ omega (arith, not)
    ] in
    let high : y.link ≤ x.link = elim (cases_lt x.link y.link) [
      | inl less ↦ absurd (y.lowest x.link q less x.over (h, x.most.0) x.leads)
      | inr not ↦ omega (arith, not)
    ] in
    let link : x.link ≡ y.link = omega (arith, low, high) in
    let next : q ≡ r = input_same q r (routes.peer (Port.Switch p.switch x.link)) (routes.peer (Port.Switch p.switch y.link)) x.over y.over (ap (λ o. routes.peer (Port.Switch p.switch o)) link) in
    let up : g ≤ h = x.most.1 g (subst (λ z. DependsBy routes g p z) (sym next) y.most.0) in
    let down : h ≤ g = y.most.1 h (subst (λ z. DependsBy routes h p z) next x.most.0) in
    (omega (arith, up, down), next)

step_same : (routes : Routes) (a b : ChannelDependency) (q r : SwitchPort) → a.input ≡ b.input → GoesOn routes a q → GoesOn routes b r → (a ≡ b) × (q ≡ r)
step_same routes a b q r same x y =
    let is = goes_same routes b.input a.header b.header q r (subst (λ z. GoesOn routes (dependency_of z a.header) q) same x) y in
    (ap (λ z. dependency_of z a.header) same ∙ ap (dependency_of b.input) is.0, is.1)

never : (e : SwitchPort) (seen : List ChannelDependency) (b : ChannelDependency) (ys : List ChannelDependency) → b.input ≡ e → is_met e (inputs_of (seen ++ [])) ≡ true → IsDistinct is_port (inputs_of (seen ++ b ∷ ys)) → ⊥
never e seen b ys same met differ = search (arith, append-nil, apart)

-- two ways that begin alike, and end where each meets an input again for the first time, are one
same_ways : (routes : Routes) (p e f : SwitchPort) (seen xs ys : List ChannelDependency) → IsWay routes p xs e → IsWay routes p ys f → IsDistinct is_port (inputs_of (seen ++ xs)) → IsDistinct is_port (inputs_of (seen ++ ys)) → is_met e (inputs_of (seen ++ xs)) ≡ true → is_met f (inputs_of (seen ++ ys)) ≡ true → (xs ≡ ys) × (e ≡ f)
same_ways routes p e f seen [] [] x y dx dy mx my = (refl, sym x ∙ y)
same_ways routes p e f seen [] (b ∷ ys) x (r, here, goes, more) dx dy mx my = absurd (never e seen b ys (here ∙ x) mx dy)
same_ways routes p e f seen (a ∷ xs) [] (q, here, goes, more) y dx dy mx my = absurd (never f seen a xs (here ∙ y) my dx)
same_ways routes p e f seen (a ∷ xs) (b ∷ ys) (q, ax, gx, wx) (r, ay, gy, wy) dx dy mx my =
    let one = step_same routes a b q r (ax ∙ sym ay) gx gy in
    let to_x : seen ++ a ∷ xs ≡ (seen ++ a ∷ []) ++ xs = sym (append_assoc seen (a ∷ []) xs) in
    let to_y : seen ++ b ∷ ys ≡ (seen ++ a ∷ []) ++ ys = ap (λ z. seen ++ z ∷ ys) (sym one.0) ∙ sym (append_assoc seen (a ∷ []) ys) in
    let rest = same_ways routes q e f (seen ++ a ∷ []) xs ys wx (subst (λ z. IsWay routes z ys f) (sym one.1) wy)
    (subst (λ zs. IsDistinct is_port (inputs_of zs)) to_x dx) (subst (λ zs. IsDistinct is_port (inputs_of zs)) to_y dy)
    (subst (λ zs. is_met e (inputs_of zs) ≡ true) to_x mx) (subst (λ zs. is_met f (inputs_of zs) ≡ true) to_y my) in
    (ap (λ z. z ∷ xs) one.0 ∙ ap (λ zs. b ∷ zs) rest.0, rest.1)

-- there is one first link
same_first : (P : SwitchPort → Type 0) (p q : SwitchPort) → IsFirstLink P p → IsFirstLink P q → p ≡ q
same_first P p q x y = search (arith, cases_lt)

pub one_cycle : (routes : Routes) → HasOneCycle routes
one_cycle routes a b x y =
    let start : x.start ≡ y.start = same_first (LeadsToCycle routes) x.start y.start x.first y.first in
    let ways = same_ways routes y.start x.again y.again [] x.steps y.steps (subst (λ z. IsWay routes z x.steps x.again) start x.way) y.way x.once y.once (met_again x.again x.steps x.before x.met) (met_again y.again y.steps y.before y.met) in
    search (arith, position, same_Some)
