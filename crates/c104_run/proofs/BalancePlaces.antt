-- What a change at one place of a list says of a number that is read at the places.
use Rattle.{c104_link.specs.Steps.◌>>=◌, c104_node.{proofs.WireEnds.{get_set_other, get_set_same}, specs.Nodes.{Node, is_switch}}}
use Rattle.{c104_node.specs.{Traces.part, declared.ends.End.End}, c104_plan.specs.Plans.Plan, c104_run.proofs.BalanceWires.AreApart}
use Rattle.{c104_run.{proofs.RunRecords.in_place, specs.Balance.{AreInPlace, credit_of, granted_of}}, std.proofs.Common.{List, Option}}
use Rattle.std.proofs.Common.{Some, [], ap, arith, false, length, map, nat_lt, refl, slice_get, slice_set, suc, sym, true, zero, ℕ, ◌+◌}
use Rattle.std.proofs.{Common.{◌-◌, ◌<◌, ◌∙◌, ◌∷◌, ◌≡◌, ◌≢◌}, lemmas.Bool.{Decides.nat_tests, cases_eq}}

-- a number that changes, where there is one
abbrev pub changed : (ℕ → ℕ) → Option ℕ → Option ℕ
changed change o = o >>= (λ c. Some (change c))

-- one that a token has used, and one that is eight more
abbrev pub lower : ℕ → ℕ
lower c = c - 1

abbrev pub raise : ℕ → ℕ
raise c = c + 8

module _ {X : Type 0} (xs : List X) (i : ℕ) (x y : X) (is : slice_get xs i ≡ Some x) where
  -- at the place itself the number is that of the new element
  pub seen_here : (f : X → Option ℕ) → (slice_get (slice_set xs i y) i >>= f) ≡ f y
  seen_here f = ap (λ o. o >>= f) (get_set_same xs i x y is)

  -- a number that is the same of the new element is the same at every place
  pub seen_kept : (f : X → Option ℕ) → f y ≡ f x → (j : ℕ) → (slice_get (slice_set xs i y) j >>= f) ≡ (slice_get xs j >>= f)
  seen_kept f keeps j = search (arith, cases_eq, seen_here, get_set_other)

  -- a number that changes at the place
  pub seen_changed : (f : X → Option ℕ) (change : ℕ → ℕ) → f y ≡ changed change (f x) → (slice_get (slice_set xs i y) i >>= f) ≡ changed change (slice_get xs i >>= f)
  seen_changed f change new = seen_here f ∙ new ∙ sym (ap (λ o. changed change (o >>= f)) is)

-- and at every other place the number is as it was
pub seen_other : {X : Type 0} (xs : List X) (i j : ℕ) (y : X) (f : X → Option ℕ) → i ≢ j → (slice_get (slice_set xs i y) j >>= f) ≡ (slice_get xs j >>= f)
seen_other xs i j y f other = ap (λ o. o >>= f) (get_set_other xs i j y other)

-- a number that is read at each link of a node
abbrev pub Reading : Type 0 → Type 0
Reading A = ℕ → Node A → Option ℕ

-- the number that is read at an end of a wire
abbrev pub read_at : {A : Type 0} → Reading A → List (Node A) → End → Option ℕ
read_at reading nodes end = slice_get nodes end.node >>= reading end.link

-- the nodes at the places below a number are switches
abbrev pub AreSwitches : {A : Type 0} → ℕ → List (Node A) → Type 0
AreSwitches {A} count nodes = (place : ℕ) (n : Node A) → place < count → slice_get nodes place ≡ Some n → is_switch n ≡ true

-- nodes that are in place have their switches first
pub switches_first : {A : Type 0} (plan : Plan) (nodes : List (Node A)) → AreInPlace plan nodes → AreSwitches (length plan.switches) nodes
switches_first plan nodes are place n inside at =
    let first : nat_lt place (length plan.switches) ≡ true = grind (arith, nat_tests, inside) in
    sym (ap (part false is_switch) at) ∙ in_place plan nodes are place ∙ first

-- a step of one node over one link: one number is kept at every link, and one changes at this one
pub record Acts {A : Type 0} (kept moved : Reading A) (change : ℕ → ℕ) (l : ℕ) (n m : Node A) : Type 0 where
  pub in_place : is_switch m ≡ is_switch n
  pub keeps : (k : ℕ) → kept k m ≡ kept k n
  pub here : moved l m ≡ changed change (moved l n)
  pub elsewhere : is_switch n ≡ true → (k : ℕ) → l ≢ k → moved k m ≡ moved k n

-- the same of the nodes, and the ends of wires
pub record ActsAt {A : Type 0} (kept moved : Reading A) (change : ℕ → ℕ) (count : ℕ) (end : End) (nodes after : List (Node A)) : Type 0 where
  pub in_place : map is_switch after ≡ map is_switch nodes
  pub keeps : (other : End) → read_at kept after other ≡ read_at kept nodes other
  pub here : read_at moved after end ≡ changed change (read_at moved nodes end)
  pub elsewhere : AreSwitches count nodes → (other : End) → AreApart count end other → read_at moved after other ≡ read_at moved nodes other

-- a step of one node that keeps both numbers
pub record Rests {A : Type 0} (n m : Node A) : Type 0 where
  pub in_place : is_switch m ≡ is_switch n
  pub credit : (k : ℕ) → credit_of k m ≡ credit_of k n
  pub granted : (k : ℕ) → granted_of k m ≡ granted_of k n

-- a switch stays a switch, and a terminal a terminal
pub still_in_place : {A : Type 0} (nodes : List (Node A)) (i : ℕ) (n m : Node A) → slice_get nodes i ≡ Some n → is_switch m ≡ is_switch n → map is_switch (slice_set nodes i m) ≡ map is_switch nodes
still_in_place [] i n m is keeps = refl
still_in_place (o ∷ nodes) zero n m is keeps = search arith
still_in_place (o ∷ nodes) (suc i) n m is keeps = ap (λ bs. is_switch o ∷ bs) (still_in_place nodes i n m is keeps)

-- a step of the node at an end of a wire is one of the nodes
pub acts_at : {A : Type 0} (kept moved : Reading A) (change : ℕ → ℕ) (count : ℕ) (end : End) (nodes : List (Node A)) (n m : Node A) → slice_get nodes end.node ≡ Some n → Acts kept moved change end.link n m → ActsAt kept moved change count end nodes (slice_set nodes end.node m)
acts_at {A} kept moved change count end nodes n m is acts = record {
  in_place = still_in_place nodes end.node n m is acts.in_place;
  keeps = λ other. seen_kept nodes end.node n m is (kept other.link) (acts.keeps other.link) other.node;
  here = seen_changed nodes end.node n m is (moved end.link) change acts.here;
  elsewhere = by_apart;
}
  where
    by_apart : AreSwitches count nodes → (other : End) → AreApart count end other → read_at moved (slice_set nodes end.node m) other ≡ read_at moved nodes other
    by_apart placed other apart = search (arith, seen_other, cases_eq, seen_kept)
