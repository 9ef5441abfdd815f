-- A set of vectors of bytes, as the list of its texts.
use Rattle.c104_plan.{proofs.PortLemmas.list_any-map, specs.{PlanIndex.texts, PlanParts.without_first, Plans.Terminal}}
use Rattle.{indexmap.specs.IndexSet.insert_key, std.proofs.Common.{Bool, List, [], ap, arith, bytes_eq, cond, false, if◌then◌else◌, map}}
use Rattle.std.proofs.{Common.{position, refl, ℕ, ◌++◌, ◌+◌, ◌∙◌, ◌∷◌, ◌≡◌}, lemmas.{Cmp.nat_list_eq_equiv, List.{length-map, map-append}}}
use Rattle.std.{proofs.lemmas.Simd.map-map, specs.{Global.Vec, List.{AllZip, list_any, prefix_len}, Vec.vec_len}}

prefix_len-map : {X Y : Type 0} (test : Y → Bool) (f : X → Y) (xs : List X) → prefix_len test (map f xs) ≡ prefix_len (λ x. test (f x)) xs
prefix_len-map test f [] = refl
prefix_len-map test f (x ∷ xs) = ap (λ n. cond (test (f x)) (1 + n) 0) (prefix_len-map test f xs)

pub position-map : {X Y : Type 0} (test : Y → Bool) (f : X → Y) (xs : List X) → position test (map f xs) ≡ position (λ x. test (f x)) xs
position-map test f xs = search (arith, prefix_len-map, length-map)

-- the test of a look-up by a slice
abbrev pub same : List ℕ → Vec ℕ → Bool
same name = λ (k : Vec ℕ). bytes_eq name k.items

flipped : (name other : List ℕ) → bytes_eq name other ≡ bytes_eq other name
flipped name other = nat_list_eq_equiv.symm name other

pub number_of-kept : (keys : List (Vec ℕ)) (name : List ℕ) → position (same name) keys ≡ position (λ other. bytes_eq other name) (texts keys)
number_of-kept keys name = search (arith, position, flipped, position-map, bytes_eq)

pub is_there-kept : (keys : List (Vec ℕ)) (name : List ℕ) → list_any (same name) keys ≡ list_any (λ other. bytes_eq other name) (texts keys)
is_there-kept keys name = search (arith, flipped, list_any-map, bytes_eq)

inserted_by : (keys : List (Vec ℕ)) (key : Vec ℕ) (there : Bool) → there ≡ false → texts (if there then keys else keys ++ key ∷ []) ≡ texts keys ++ key.items ∷ []
inserted_by keys key there is = search (arith, map-append)

-- a name that isn't there comes behind the others
pub inserted-kept : (keys : List (Vec ℕ)) (key : Vec ℕ) → list_any (λ other. bytes_eq other key.items) (texts keys) ≡ false → texts (insert_key (λ (a b : Vec ℕ). bytes_eq a.items b.items) keys key) ≡ texts keys ++ key.items ∷ []
inserted-kept keys key none = inserted_by keys key (list_any (same key.items) keys) (is_there-kept keys key.items ∙ none)

-- copies of names, byte by byte
copied : (xs ys : List ℕ) → AllZip (λ x y. y ≡ x) xs ys → ys ≡ xs
copied [] [] all = refl
copied [] (y ∷ ys) all = absurd all
copied (x ∷ xs) [] all = absurd all
copied (x ∷ xs) (y ∷ ys) all = let first : y ≡ x = all.0 in let rest : ys ≡ xs = copied xs ys all.1 in cc

pub texts_copied : (keys copies : List (Vec ℕ)) → AllZip (λ (v w : Vec ℕ). AllZip (λ x y. y ≡ x) v.items w.items × (vec_len w ≡ vec_len v)) keys copies → texts copies ≡ texts keys
texts_copied [] [] all = refl
texts_copied [] (w ∷ copies) all = absurd all
texts_copied (v ∷ keys) [] all = absurd all
texts_copied (v ∷ keys) (w ∷ copies) all = search (arith, copied, texts_copied keys copies all.1)

-- they have the same names
pub same_names : (terminals : List Terminal) → map (λ (t : Terminal). t.name) (map without_first terminals) ≡ map (λ (t : Terminal). t.name) terminals
same_names terminals = map-map (λ (t : Terminal). t.name) without_first terminals
