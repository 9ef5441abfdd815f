-- What a depth-first visit finds: a tree of different switches, with all that wires lead to.
use Rattle.c104_label.specs.Forests.{AreInside, AreSwitches, Ends, Forest, Grown, IsDepthFirst, IsPassed, Wired, child, empty, is_met}
use Rattle.{c104_label.specs.Forests.{links, switches}, c104_plan.specs.declared.ports.Port.Port, std.proofs.Common.{Bool, List, Some, []}}
use Rattle.std.proofs.Common.{ap, append-nil, append_assoc, arith, false, inl, inr, length, refl, subst, suc, sym, true, zero, ℕ, ◌++◌, ◌+◌}
use Rattle.std.proofs.{Common.{◌-◌, ◌<◌, ◌==◌, ◌||◌, ◌∙◌, ◌∷◌, ◌≡◌, ◌≤◌, ◌⊎◌}, Math.Dec.eqb, lemmas.Bool.{Decides.nat_tests, eq-eqb}}
use Rattle.std.proofs.lemmas.{Bool.{eqb-true, or_cases, or_parts, or_right}, Map.Steps.length-le_from_distinct_below}
use Rattle.std.specs.List.{AllByRecursion, IsDistinct, range_with_len}

-- this holds of each switch of a forest
abbrev pub AllSwitches : (ℕ → Type 0) → Forest → Type 0
AllSwitches holds empty = Unit {0}
AllSwitches holds (child l r b below rest) = holds r × AllSwitches holds below × AllSwitches holds rest

-- lists of what was met

or_step : (a b c : Bool) → (b ≡ true → c ≡ true) → (a || b) ≡ true → (a || c) ≡ true
or_step a b c next is = search arith

pub met_left : (xs ys : List ℕ) (s : ℕ) → is_met xs s ≡ true → is_met (xs ++ ys) s ≡ true
met_left [] ys s is = absurd cc
met_left (x ∷ xs) ys s is = or_step (s == x) (is_met xs s) (is_met (xs ++ ys) s) (met_left xs ys s) is

pub met_right : (xs ys : List ℕ) (s : ℕ) → is_met ys s ≡ true → is_met (xs ++ ys) s ≡ true
met_right [] ys s is = is
met_right (x ∷ xs) ys s is = or_right (s == x) (is_met (xs ++ ys) s) (met_right xs ys s is)

pub met_parts : (xs ys : List ℕ) (s : ℕ) → is_met (xs ++ ys) s ≡ true → (is_met xs s ≡ true) ⊎ (is_met ys s ≡ true)
met_parts [] ys s is = inr is
met_parts (x ∷ xs) ys s is =
    elim (or_cases (s == x) (is_met (xs ++ ys) s) is) [
      | inl here ↦ inl (rw here refl)
      | inr later ↦ elim (met_parts xs ys s later) [ inl a ↦ inl (or_right (s == x) (is_met xs s) a) | inr b ↦ inr b ]
    ]

pub met_first : (s : ℕ) (xs : List ℕ) → is_met (s ∷ xs) s ≡ true
met_first s xs = rw (eq-eqb s s refl) refl

-- a forest's switches after some, as they are visited
pub in_turn : (seen : List ℕ) (c : ℕ) (below rest : List ℕ) → ((seen ++ (c ∷ [])) ++ below) ++ rest ≡ seen ++ ((c ∷ below) ++ rest)
in_turn seen c below rest = search (arith, append_assoc)

-- what wires of visited switches lead to was visited

IsPassed-more : (ends : Ends) (seen more : List ℕ) (s : ℕ) (ls : List ℕ) → AllByRecursion (IsPassed ends seen s) ls → AllByRecursion (IsPassed ends (seen ++ more) s) ls
IsPassed-more ends seen more s [] all = tt
IsPassed-more ends seen more s (l ∷ ls) all = ((λ r b at. met_left seen more r (all.0 r b at)), IsPassed-more ends seen more s ls all.1)

All-append : (P : ℕ → Type 0) (xs ys : List ℕ) → AllByRecursion P xs → AllByRecursion P ys → AllByRecursion P (xs ++ ys)
All-append P [] ys a b = b
All-append P (x ∷ xs) ys a b = (a.0, All-append P xs ys a.1 b)

AllSwitches-map : (P Q : ℕ → Type 0) → ((s : ℕ) → P s → Q s) → (f : Forest) → AllSwitches P f → AllSwitches Q f
AllSwitches-map P Q each empty all = tt
AllSwitches-map P Q each (child l r b below rest) all = (each r all.0, AllSwitches-map P Q each below all.1, AllSwitches-map P Q each rest all.2)

abbrev IsClosed : Ends → List ℕ → ℕ → Type 0
IsClosed ends seen s = AllByRecursion (IsPassed ends seen s) links

pub wire_here : (ends : Ends) (s l r b : ℕ) (seen : List ℕ) → ends s l ≡ Some (Port.Switch r b) → is_met seen r ≡ true → IsPassed ends seen s l
wire_here ends s l r b seen at met r' b' is = search arith

pub grown_closed : (ends : Ends) (f : Forest) (seen ls : List ℕ) (s : ℕ) → Grown ends seen s ls f → AllByRecursion (IsPassed ends (seen ++ switches f) s) ls × AllSwitches (IsClosed ends (seen ++ switches f)) f
grown_closed ends empty seen ls s grown = (IsPassed-more ends seen [] s ls grown, tt)
grown_closed ends (child l r b below rest) seen ls s (before, after, is, passed, at, new, down, on) =
    let first = seen ++ (r ∷ []) in
    search (arith, in_turn, IsPassed-more, met_right, met_first, All-append, wire_here, AllSwitches-map, grown_closed ends below first links r down, grown_closed ends rest (first ++ switches below) after s on)

pub AllSwitches-at : (P : ℕ → Type 0) (f : Forest) (s : ℕ) → AllSwitches P f → is_met (switches f) s ≡ true → P s
AllSwitches-at P empty s all is = absurd cc
AllSwitches-at P (child l r b below rest) s all is =
    elim (or_cases (s == r) (is_met (switches below ++ switches rest) s) is) [
      | inl here ↦ subst P (sym (eqb-true s r here)) all.0
      | inr later ↦ elim (met_parts (switches below) (switches rest) s later) [
        | inl a ↦ AllSwitches-at P below s all.1 a
        | inr b ↦ AllSwitches-at P rest s all.2 b
      ]
    ]

passed_at : (ends : Ends) (seen : List ℕ) (s : ℕ) (ls : List ℕ) (l r b : ℕ) → AllByRecursion (IsPassed ends seen s) ls → is_met ls l ≡ true → ends s l ≡ Some (Port.Switch r b) → is_met seen r ≡ true
passed_at ends seen s [] l r b all one at = absurd cc
passed_at ends seen s (k ∷ ls) l r b all one at =
    elim (or_cases (l == k) (is_met ls l) one) [
      | inl here ↦ all.0 r b (ap (ends s) (sym (eqb-true l k here)) ∙ at)
      | inr later ↦ passed_at ends seen s ls l r b all.1 later at
    ]

closed_at : (ends : Ends) (root : ℕ) (f : Forest) (s : ℕ) → IsDepthFirst ends root f → is_met (root ∷ switches f) s ≡ true → IsClosed ends (root ∷ switches f) s
closed_at ends root f s grown is = search (arith, grown_closed, or_cases, eqb-true, AllSwitches-at)

-- visited is what wires lead to from the root, and nothing else
pub wired_met : (ends : Ends) (root : ℕ) (f : Forest) → IsDepthFirst ends root f → (m s : ℕ) → Wired ends root m s → is_met (root ∷ switches f) s ≡ true
wired_met ends root f grown zero s same = subst (λ c. is_met (root ∷ switches f) c ≡ true) (sym same) (met_first root (switches f))
wired_met ends root f grown (suc m) s (r, l, b, before, is_link, at) =
    passed_at ends (root ∷ switches f) r links l s b (closed_at ends root f r grown (wired_met ends root f grown m r before)) is_link at

link_in : (ls before after : List ℕ) (l : ℕ) → ls ≡ before ++ (l ∷ after) → is_met ls l ≡ true
link_in ls before after l is = rw is (met_right before (l ∷ after) l (met_first l after))

abbrev Links : List ℕ → Type 0
Links ls = (l : ℕ) → is_met ls l ≡ true → is_met links l ≡ true

links_after : (ls before after : List ℕ) (l : ℕ) → ls ≡ before ++ (l ∷ after) → Links ls → Links after
links_after ls before after l is all k one = all k (rw is (met_right before (l ∷ after) k (or_right (k == l) (is_met after k) one)))

forest_wired : (ends : Ends) (root : ℕ) (f : Forest) (seen ls : List ℕ) (s m : ℕ) → Grown ends seen s ls f → Links ls → Wired ends root m s → AllSwitches (λ c. (j : ℕ) × Wired ends root j c) f
forest_wired ends root empty seen ls s m grown all wired = tt
forest_wired ends root (child l r b below rest) seen ls s m (before, after, is, passed, at, new, down, on) all wired =
    let here : Wired ends root (suc m) r = (s, l, b, wired, all l (link_in ls before after l is), at) in (
      (suc m, here),
      forest_wired ends root below (seen ++ (r ∷ [])) links r (suc m) down (λ k one. one) here,
      forest_wired ends root rest ((seen ++ (r ∷ [])) ++ switches below) after s m on (links_after ls before after l is all) wired,
    )

pub met_wired : (ends : Ends) (root : ℕ) (f : Forest) → IsDepthFirst ends root f → (s : ℕ) → is_met (root ∷ switches f) s ≡ true → (m : ℕ) × Wired ends root m s
met_wired ends root f grown s is =
    elim (or_cases (s == root) (is_met (switches f) s) is) [
      | inl here ↦ (zero, eqb-true s root here)
      | inr later ↦ AllSwitches-at (λ c. (j : ℕ) × Wired ends root j c) f s (forest_wired ends root f (root ∷ []) links root zero grown (λ k one. one) refl) later
    ]

-- different switches

All-snoc : (P : ℕ → Type 0) (xs : List ℕ) (x : ℕ) → AllByRecursion P xs → P x → AllByRecursion P (xs ++ (x ∷ []))
All-snoc P [] x all one = (one, tt)
All-snoc P (y ∷ xs) x all one = (all.0, All-snoc P xs x all.1 one)

eqb_other : (a b : ℕ) → eqb a b ≡ false → eqb b a ≡ false
eqb_other a b is = grind (arith, nat_tests)

IsDistinct-snoc : (xs : List ℕ) (s : ℕ) → IsDistinct eqb xs → is_met xs s ≡ false → IsDistinct eqb (xs ++ (s ∷ []))
unfolding IsDistinct
IsDistinct-snoc [] s differ new = (tt, tt)
IsDistinct-snoc (x ∷ xs) s differ new =
    let both = or_parts (s == x) (is_met xs s) new in
    (All-snoc (λ y. eqb x y ≡ false) xs s differ.0 (eqb_other s x both.0), IsDistinct-snoc xs s differ.1 both.1)

pub switches_room : (n : ℕ) (seen : List ℕ) → AreSwitches n seen → length seen ≤ n
switches_room n seen are = length-le_from_distinct_below seen n are.differ are.below

pub switches_more : (n : ℕ) (seen : List ℕ) (s : ℕ) → AreSwitches n seen → is_met seen s ≡ false → s < n → AreSwitches n (seen ++ (s ∷ []))
switches_more n seen s are new small = search (arith, IsDistinct-snoc, met_parts, or_cases, eqb-true)

pub grown_switches : (ends : Ends) (n : ℕ) → AreInside ends n → (f : Forest) (seen ls : List ℕ) (s : ℕ) → Grown ends seen s ls f → AreSwitches n seen → AreSwitches n (seen ++ switches f)
grown_switches ends n inputs empty seen ls s grown are = subst (AreSwitches n) (sym (append-nil seen)) are
grown_switches ends n inputs (child l r b below rest) seen ls s (before, after, is, passed, at, new, down, on) are =
    let one = switches_more n seen r are new (inputs s l r b at) in
    let inner = grown_switches ends n inputs below (seen ++ (r ∷ [])) links r down one in
    subst (AreSwitches n) (in_turn seen r (switches below) (switches rest)) (grown_switches ends n inputs rest ((seen ++ (r ∷ [])) ++ switches below) after s on inner)

pub grown_skip : (ends : Ends) (seen : List ℕ) (s l : ℕ) (ls : List ℕ) (f : Forest) → IsPassed ends seen s l → Grown ends seen s ls f → Grown ends seen s (l ∷ ls) f
grown_skip ends seen s l ls empty here grown = (here, grown)
grown_skip ends seen s l ls (child k r b below rest) here (before, after, is, passed, at, new, down, on) =
    (l ∷ before, after, ap (λ xs. l ∷ xs) is, (here, passed), at, new, down, on)

pub grown_take : (ends : Ends) (seen : List ℕ) (s l r b : ℕ) (ls : List ℕ) (below rest : Forest) → ends s l ≡ Some (Port.Switch r b) → is_met seen r ≡ false → Grown ends (seen ++ (r ∷ [])) r links below
    → Grown ends ((seen ++ (r ∷ [])) ++ switches below) s ls rest → Grown ends seen s (l ∷ ls) (child l r b below rest)
grown_take ends seen s l r b ls below rest at new down on = ([], ls, refl, tt, at, new, down, on)

pub switches_root : (n root : ℕ) → root < n → AreSwitches n (root ∷ [])
unfolding IsDistinct
switches_root n root small = search (arith, or_cases, eqb-true)

-- a switch's links from one on

pub range_step : (l : ℕ) → l < 32 → range_with_len l (32 - l) ≡ l ∷ range_with_len (l + 1) (32 - (l + 1))
range_step l below = let e : 32 - l ≡ suc (32 - (l + 1)) = omega (arith, below) in rw e refl

pub links_are : links ≡ range_with_len 0 (32 - 0)
unfolding links
links_are = refl
