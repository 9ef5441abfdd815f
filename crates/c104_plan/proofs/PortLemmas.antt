-- Ports that are tested to be the same are, and lists of what stands at different ports.
use Rattle.{c104_plan.{proofs.Distinct.distinct_pushed, specs.Ports.{AreOncePerPort, Port, is_any_at, is_port}}, std.proofs.Common.Bool}
use Rattle.std.proofs.{Common.{List, [], ap, arith, false, map, refl, true, ◌++◌, ◌||◌, ◌∷◌, ◌≡◌, ◌≢◌, ◌⊎◌}, lemmas.Bool.Decides.nat_tests}
use Rattle.std.{proofs.lemmas.{Bool.and_parts, List.map-append}, specs.List.list_any}

-- a port that is tested to be another is that one
pub is_port-true : (p q : Port) → is_port p q ≡ true → p ≡ q
is_port-true p q is = search (arith, and_parts, nat_tests)

-- a port is tested to be itself
pub is_port-refl : (p : Port) → is_port p p ≡ true
is_port-refl p = search (arith, nat_tests)

-- two ports are one, or tested to differ
pub cases_port : (p q : Port) → (p ≡ q) ⊎ (is_port p q ≡ false)
cases_port p q = search (arith, is_port-true)

-- a port that differs from another is tested so
pub is_port-ne : (p q : Port) → p ≢ q → is_port p q ≡ false
is_port-ne p q differs = search (arith, cases_port)

-- the test is the same either way round
pub is_port-flips : (p q : Port) → is_port p q ≡ is_port q p
is_port-flips p q = search (arith, cases_port, is_port-ne, is_port-refl)

pub list_any-map : {X Y : Type 0} (p : Y → Bool) (f : X → Y) (xs : List X) → list_any p (map f xs) ≡ list_any (λ x. p (f x)) xs
list_any-map p f [] = refl
list_any-map p f (x ∷ xs) = ap (λ rest. p (f x) || rest) (list_any-map p f xs)

-- one more, at a port where none is
pub once-pushed : {X : Type 0} (port_of : X → Port) (xs : List X) (x : X) → is_any_at port_of xs (port_of x) ≡ false → AreOncePerPort port_of xs → AreOncePerPort port_of (xs ++ x ∷ [])
unfolding is_any_at
once-pushed port_of xs x none once = search (arith, map-append, distinct_pushed, list_any-map)
