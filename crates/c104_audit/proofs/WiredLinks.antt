-- Which links have wires: none past the last one, and of the others those that a node keeps.
use Rattle.c104_audit.{proofs.CalledSeats.past_end, specs.{Audits.{AreLists, IsShaped, is_link_wired}, Tests.HasLinksTo}}
use Rattle.{c104_audit.specs.declared.lists.{Lists.Lists, NodeShape.NodeShape}, c104_plan.specs.Ports.{is_port, other_end}}
use Rattle.{c104_plan.specs.declared.ports.{Port.Port, Wire.Wire}, c104_run.specs.Rounds.link_numbers, std.proofs.Common.{Bool, IsTrue}}
use Rattle.std.proofs.Common.{List, Some, [], ap, arith, false, is_some, length, map, refl, slice_get, suc, sym, unwrap_or, zero, ℕ, ◌+◌}
use Rattle.std.{proofs.{Common.{◌<◌, ◌↔◌, ◌∙◌, ◌∷◌, ◌≡◌, ◌≤◌}, lemmas.Bool.Decides.nat_tests}, specs.List.range_with_len}

-- a port has one of the 32 links, or is a terminal's
abbrev IsLinkPort : Port → Type 0
IsLinkPort (Port.Switch s l) = l < 32
IsLinkPort (Port.Terminal t) = Unit {0}

no_wire : (ws : List Wire) (k l : ℕ) → 32 ≤ l → ((i : ℕ) (w : Wire) → slice_get ws i ≡ Some w → IsLinkPort w.here × IsLinkPort w.there) → is_some (other_end ws (Port.Switch k l)) ≡ false
no_wire [] k l past inside = refl
no_wire (w ∷ ws) k l past inside =
    let ends = inside 0 w refl in
    rw (not_port w.here ends.0, not_port w.there ends.1) (no_wire ws k l past (λ i v at. inside (suc i) v at))
  where
    not_port : (p : Port) → IsLinkPort p → is_port p (Port.Switch k l) ≡ false
    not_port p below = search (arith, nat_tests)

pub past_links : (lists : Lists) → AreLists lists → (k l : ℕ) → 32 ≤ l → is_link_wired lists.switches lists.wires k l ≡ false
past_links lists are k l past = search (arith, no_wire, nat_tests)

-- a list of what each link is told has at each place what its link is told, and a list that has that is the one
told_there : (f : ℕ → Bool) (a n l : ℕ) → l < n → slice_get (map f (range_with_len a n)) l ≡ Some (f (a + l))
told_there f a zero l below = absurd (let no : ⊥ = omega (arith, below) in no)
told_there f a (suc n) zero below = let same : a ≡ a + 0 = omega arith in ap (λ m. Some (f m)) same
told_there f a (suc n) (suc l) below = let same : a + 1 + l ≡ a + suc l = omega arith in told_there f (a + 1) n l (omega (arith, below)) ∙ ap (λ m. Some (f m)) same

told_all : (f : ℕ → Bool) (a n : ℕ) (xs : List Bool) → length xs ≡ n → ((l : ℕ) → l < n → slice_get xs l ≡ Some (f (a + l))) → xs ≡ map f (range_with_len a n)
told_all f a zero [] long told = refl
told_all f a (suc n) [] long told = absurd (let no : ⊥ = omega (arith, long) in no)
told_all f a zero (x ∷ xs) long told = absurd (let no : ⊥ = omega (arith, long) in no)
told_all f a (suc n) (x ∷ xs) long told =
    let first : Some x ≡ Some (f (a + 0)) = told 0 (omega arith) in
    let here : a + 0 ≡ a = omega arith in
    let head : x ≡ f a = (let one : x ≡ f (a + 0) = cc in one) ∙ ap f here in
    let rest : xs ≡ map f (range_with_len (a + 1) n) = told_all f (a + 1) n xs (omega (arith, long)) (λ l below. told (suc l) (omega (arith, below)) ∙ (let same : a + suc l ≡ a + 1 + l = omega arith in ap (λ m. Some (f m)) same)) in
    ap (λ y. y ∷ xs) head ∙ ap (λ ys. f a ∷ ys) rest

told_long : (f : ℕ → Bool) (a n : ℕ) → length (map f (range_with_len a n)) ≡ n
told_long f a zero = refl
told_long f a (suc n) = let rest = told_long f (a + 1) n in omega (arith, rest)

numbers_are : link_numbers ≡ range_with_len 0 32
unfolding link_numbers
numbers_are = refl

pub links_long : (f : ℕ → Bool) (wired : List Bool) → wired ≡ map f link_numbers → length wired ≡ 32
links_long f wired is = ap length (is ∙ ap (map f) numbers_are) ∙ told_long f 0 32

-- what a node keeps of its links is what is wired
pub links_same : (f : ℕ → Bool) (wired : List Bool) → length wired ≡ 32 → ((l : ℕ) → l < 32 → slice_get wired l ≡ Some (f l)) → wired ≡ map f link_numbers
links_same f wired long told = told_all f 0 32 wired long (λ l below. told l below ∙ (let same : l ≡ 0 + l = omega arith in ap (λ m. Some (f m)) same)) ∙ ap (map f) (sym numbers_are)

pub links_there : (f : ℕ → Bool) (wired : List Bool) → wired ≡ map f link_numbers → (l : ℕ) → l < 32 → slice_get wired l ≡ Some (f l)
links_there f wired is l below = ap (λ xs. slice_get xs l) (is ∙ ap (map f) numbers_are) ∙ told_there f 0 32 l below ∙ (let same : 0 + l ≡ l = omega arith in ap (λ m. Some (f m)) same)

pub links_are : (lists : Lists) (k : ℕ) (wired : List Bool) (b : Bool) → IsTrue b ↔ ((length wired ≡ 32) × HasLinksTo lists k wired 32) →
    IsTrue b ↔ (wired ≡ map (is_link_wired lists.switches lists.wires k) link_numbers)
links_are lists k wired b tells = search (arith, links_same, links_long, links_there)

-- what a node keeps of a link tells whether it has a wire
pub kept_wired : (lists : Lists) → AreLists lists → (k : ℕ) (n : NodeShape) (wired : List Bool) (l : ℕ) → IsShaped lists k → slice_get lists.nodes k ≡ Some n → wired ≡ n.wired →
    unwrap_or (slice_get wired l) false ≡ is_link_wired lists.switches lists.wires k l
kept_wired lists are k n wired l shaped there lent = search (arith, links_there, nat_tests, links_long, past_end, past_links)
