-- The numbers of those of a list that pass a test, as loops find them one by one.
use Rattle.{c104_run.specs.Rounds.link_numbers, c104_switch.specs.Claims.IsNextLink, c104_turns.specs.Parts.numbers_in}
use Rattle.std.proofs.Common.{Bool, List, None, Option, Some, [], ap, append-nil, append_assoc, arith, false, filter, get_or, if◌then◌else◌}
use Rattle.std.proofs.Common.{length, map, refl, suc, sym, true, zero, ℕ, ◌&&◌, ◌*◌, ◌++◌, ◌+◌, ◌-◌, ◌<◌, ◌∙◌, ◌∷◌, ◌≡◌, ◌≤◌}
use Rattle.std.{proofs.lemmas.List.Sums.position_or_len_is, specs.List.{flat_map, position_or_len, range_with_len}}

-- one more before those that are there
one_more : (b : Bool) (k : ℕ) (xs ys all : List ℕ) → all ≡ xs ++ ys → (if b then k ∷ all else all) ≡ (if b then k ∷ xs else xs) ++ ys
one_more true k xs ys all is = ap (λ (ns : List ℕ). k ∷ ns) is
one_more false k xs ys all is = is

-- of lists that are joined
pub numbers_append : {X : Type 0} (q : X → Bool) (k : ℕ) (xs ys : List X) → numbers_in q k (xs ++ ys) ≡ numbers_in q k xs ++ numbers_in q (k + length xs) ys
numbers_append {X} q k [] ys = let same : k ≡ k + 0 = omega arith in ap (λ (m : ℕ). numbers_in q m ys) same
numbers_append {X} q k (x ∷ xs) ys =
    let same : suc k + length xs ≡ k + length (x ∷ xs) = omega arith in
    one_more (q x) k (numbers_in q (suc k) xs) (numbers_in q (k + length (x ∷ xs)) ys) (numbers_in q (suc k) (xs ++ ys)) (numbers_append q (suc k) xs ys ∙ ap (λ (m : ℕ). numbers_in q (suc k) xs ++ numbers_in q m ys) same)

-- of what is made of each
pub numbers_map : {X Y : Type 0} (q : Y → Bool) (f : X → Y) (k : ℕ) (xs : List X) → numbers_in q k (map f xs) ≡ numbers_in (λ x. q (f x)) k xs
numbers_map q f k [] = refl
numbers_map q f k (x ∷ xs) = ap (λ (ns : List ℕ). if q (f x) then k ∷ ns else ns) (numbers_map q f (suc k) xs)

-- where none passes
pub numbers_none : {X : Type 0} (q : X → Bool) → ((x : X) → q x ≡ false) → (k : ℕ) (xs : List X) → numbers_in q k xs ≡ []
numbers_none q none k [] = refl
numbers_none q none k (x ∷ xs) = ap (λ (b : Bool). if b then k ∷ numbers_in q (suc k) xs else numbers_in q (suc k) xs) (none x) ∙ numbers_none q none (suc k) xs

-- two tests that say the same of the numbers at hand
pub numbers_agree : (q r t : ℕ → Bool) (k a n : ℕ) → ((l : ℕ) → l < a + n → q l ≡ r l) → numbers_in q k (filter t (range_with_len a n)) ≡ numbers_in r k (filter t (range_with_len a n))
numbers_agree q r t k a zero same = refl
numbers_agree q r t k a (suc n) same = by_test (λ j. numbers_agree q r t j (a + 1) n (λ l below. same l (omega (arith, below)))) (t a)
  where
    rest : List ℕ
    rest = filter t (range_with_len (a + 1) n)

    by_test : ((j : ℕ) → numbers_in q j rest ≡ numbers_in r j rest) → (b : Bool) → numbers_in q k (if b then a ∷ rest else rest) ≡ numbers_in r k (if b then a ∷ rest else rest)
    by_test later false = later k
    by_test later true =
        ap (λ (b : Bool). if b then k ∷ numbers_in q (suc k) rest else numbers_in q (suc k) rest) (same a (omega arith))
        ∙ ap (λ (ns : List ℕ). if r a then k ∷ ns else ns) (later (suc k))

-- where none of the numbers at hand passes both
pub numbers_apart : (q t : ℕ → Bool) (k a n : ℕ) → ((l : ℕ) → l < a + n → (q l && t l) ≡ false) → numbers_in q k (filter t (range_with_len a n)) ≡ []
numbers_apart q t k a zero none = refl
numbers_apart q t k a (suc n) none = by_test (λ j. numbers_apart q t j (a + 1) n (λ l below. none l (omega (arith, below)))) (t a) refl
  where
    rest : List ℕ
    rest = filter t (range_with_len (a + 1) n)

    isnt : t a ≡ true → q a ≡ false
    isnt is = let no : (q a && t a) ≡ false = none a (omega arith) in search (arith, no, is)

    by_test : ((j : ℕ) → numbers_in q j rest ≡ []) → (b : Bool) → t a ≡ b → numbers_in q k (if b then a ∷ rest else rest) ≡ []
    by_test later false is = later k
    by_test later true is = ap (λ (b : Bool). if b then k ∷ numbers_in q (suc k) rest else numbers_in q (suc k) rest) (isnt is) ∙ later (suc k)

-- a list that grew by the next of what is left
pub joined_next : {X : Type 0} (so more rest left total now : List X) → so ++ left ≡ total → left ≡ more ++ rest → now ≡ so ++ more → now ++ rest ≡ total
joined_next {X} so more rest left total now is split grown = search (arith, append_assoc)

-- and at its end, where nothing is left
pub joined_end : {X : Type 0} (so left total : List X) → so ++ left ≡ total → left ≡ [] → so ≡ total
joined_end {X} so left total is none = search (arith, append-nil)

-- the first that passes, as a loop finds it
pub first_here : {X : Type 0} (q : X → Bool) (es : List X) (i : ℕ) (e : X) → i < length es → e ≡ get_or es i e → q e ≡ true → ((k : ℕ) (d : X) → k < i → q (get_or es k d) ≡ false) → i ≡ position_or_len q es
first_here q es i e inside at is none = sym (position_or_len_is q es i e (omega (arith, inside)) (λ k low. none k e low) (λ within. ap q (sym at) ∙ is))

pub none_there : {X : Type 0} (q : X → Bool) (es : List X) (i : ℕ) → i ≡ length es → ((k : ℕ) (d : X) → k < i → q (get_or es k d) ≡ false) → length es ≡ position_or_len q es
none_there q [] i all none = refl
none_there q (x ∷ xs) i all none = sym (position_or_len_is q (x ∷ xs) (length (x ∷ xs)) x (omega arith) (λ k low. none k x (omega (arith, low, all))) (λ within. absurd (omega (arith, within))))

-- the links from one on
unfoldable pub left_links : ℕ → List ℕ
left_links from = range_with_len from (32 - from)

pub all_left : left_links 0 ≡ link_numbers
unfolding link_numbers left_links
all_left = refl

pub no_links : (q t : ℕ → Bool) (k : ℕ) (found : Option ℕ) → IsNextLink (λ l. q l && t l) 0 found → found ≡ None → numbers_in q k (filter t link_numbers) ≡ []
unfolding link_numbers
no_links q t k found next is = numbers_apart q t k 0 32 (passed_by found next is)
  where
    passed_by : (found : Option ℕ) → IsNextLink (λ l. q l && t l) 0 found → found ≡ None → (l : ℕ) → l < 32 → (q l && t l) ≡ false
    passed_by found next is l below = search (arith, next, is, below)

-- what the next one says
pub next_low : (t : ℕ → Bool) (from link : ℕ) → IsNextLink t from (Some link) → from ≤ link
next_low t from link next = search arith

pub next_high : (t : ℕ → Bool) (from link : ℕ) → IsNextLink t from (Some link) → link < 32
next_high t from link next = search arith

pub next_is : (t : ℕ → Bool) (from link : ℕ) → IsNextLink t from (Some link) → t link ≡ true
next_is t from link next = search arith

pub next_passed : (t : ℕ → Bool) (from link : ℕ) → IsNextLink t from (Some link) → (l : ℕ) → from ≤ l → l < link → t l ≡ false
next_passed t from link next l low high = search arith

pub last_passed : (t : ℕ → Bool) (from : ℕ) → IsNextLink t from None → (l : ℕ) → from ≤ l → l < 32 → t l ≡ false
last_passed t from next l low high = search arith

-- those that don't pass are left out
passed : (t : ℕ → Bool) (a n m : ℕ) → ((l : ℕ) → a ≤ l → l < a + n → t l ≡ false) → filter t (range_with_len a (n + m)) ≡ filter t (range_with_len (a + n) m)
passed t a zero m none =
    let all : 0 + m ≡ m = omega arith in
    let here : a ≡ a + 0 = omega arith in
    ap (λ (k : ℕ). filter t (range_with_len a k)) all ∙ ap (λ (b : ℕ). filter t (range_with_len b m)) here
passed t a (suc n) m none =
    let all : suc n + m ≡ suc (n + m) = omega arith in
    let here : a + 1 + n ≡ a + suc n = omega arith in
    ap (λ (k : ℕ). filter t (range_with_len a k)) all
    ∙ ap (λ (b : Bool). if b then a ∷ filter t (range_with_len (a + 1) (n + m)) else filter t (range_with_len (a + 1) (n + m))) (none a (omega arith) (omega arith))
    ∙ passed t (a + 1) n m (λ l low high. none l (omega (arith, low)) (omega (arith, high)))
    ∙ ap (λ (b : ℕ). filter t (range_with_len b m)) here

-- the next one that passes comes first of those that are left
pub next_left : (t : ℕ → Bool) (from link : ℕ) → from ≤ link → link < 32 → ((l : ℕ) → from ≤ l → l < link → t l ≡ false) → t link ≡ true → filter t (left_links from) ≡ link ∷ filter t (left_links (link + 1))
unfolding left_links
next_left t from link low high none is =
    let all : 32 - from ≡ (link - from) + (32 - link) = omega (arith, low, high) in
    let here : from + (link - from) ≡ link = omega (arith, low) in
    let more : 32 - link ≡ suc (32 - (link + 1)) = omega (arith, high) in
    ap (λ (k : ℕ). filter t (range_with_len from k)) all
    ∙ passed t from (link - from) (32 - link) (λ l at below. none l at (omega (arith, below, low)))
    ∙ ap (λ (b : ℕ). filter t (range_with_len b (32 - link))) here
    ∙ ap (λ (k : ℕ). filter t (range_with_len link k)) more
    ∙ ap (λ (b : Bool). if b then link ∷ filter t (left_links (link + 1)) else filter t (left_links (link + 1))) is

pub none_left : (t : ℕ → Bool) (from : ℕ) → from ≤ 32 → ((l : ℕ) → from ≤ l → l < 32 → t l ≡ false) → filter t (left_links from) ≡ []
unfolding left_links
none_left t from inside none =
    let all : 32 - from ≡ (32 - from) + 0 = omega arith in
    ap (λ (k : ℕ). filter t (range_with_len from k)) all ∙ passed t from (32 - from) 0 (λ l at below. none l at (omega (arith, below, inside)))

-- the same of their numbers
passed_numbers : (q : ℕ → Bool) (k a n m : ℕ) → ((l : ℕ) → a ≤ l → l < a + n → q l ≡ false) → numbers_in q k (range_with_len a (n + m)) ≡ numbers_in q (k + n) (range_with_len (a + n) m)
passed_numbers q k a zero m none =
    let all : 0 + m ≡ m = omega arith in
    let here : a ≡ a + 0 = omega arith in
    let same : k ≡ k + 0 = omega arith in
    ap (λ (i : ℕ). numbers_in q k (range_with_len a i)) all ∙ ap (λ (b : ℕ). numbers_in q k (range_with_len b m)) here ∙ ap (λ (i : ℕ). numbers_in q i (range_with_len (a + 0) m)) same
passed_numbers q k a (suc n) m none =
    let all : suc n + m ≡ suc (n + m) = omega arith in
    let here : a + 1 + n ≡ a + suc n = omega arith in
    let same : suc k + n ≡ k + suc n = omega arith in
    ap (λ (i : ℕ). numbers_in q k (range_with_len a i)) all
    ∙ ap (λ (b : Bool). if b then k ∷ numbers_in q (suc k) (range_with_len (a + 1) (n + m)) else numbers_in q (suc k) (range_with_len (a + 1) (n + m))) (none a (omega arith) (omega arith))
    ∙ passed_numbers q (suc k) (a + 1) n m (λ l low high. none l (omega (arith, low)) (omega (arith, high)))
    ∙ ap (λ (b : ℕ). numbers_in q (suc k + n) (range_with_len b m)) here
    ∙ ap (λ (i : ℕ). numbers_in q i (range_with_len (a + suc n) m)) same

pub next_number : (q : ℕ → Bool) (k from link : ℕ) → from ≤ link → link < 32 → ((l : ℕ) → from ≤ l → l < link → q l ≡ false) → q link ≡ true → numbers_in q (k + from) (left_links from) ≡ (k + link) ∷ numbers_in q (k + (link + 1)) (left_links (link + 1))
unfolding left_links
next_number q k from link low high none is =
    let all : 32 - from ≡ (link - from) + (32 - link) = omega (arith, low, high) in
    let here : from + (link - from) ≡ link = omega (arith, low) in
    let at : k + from + (link - from) ≡ k + link = omega (arith, low) in
    let more : 32 - link ≡ suc (32 - (link + 1)) = omega (arith, high) in
    let next : suc (k + link) ≡ k + (link + 1) = omega arith in
    ap (λ (i : ℕ). numbers_in q (k + from) (range_with_len from i)) all
    ∙ passed_numbers q (k + from) from (link - from) (32 - link) (λ l above below. none l above (omega (arith, below, low)))
    ∙ ap (λ (b : ℕ). numbers_in q (k + from + (link - from)) (range_with_len b (32 - link))) here
    ∙ ap (λ (i : ℕ). numbers_in q i (range_with_len link (32 - link))) at
    ∙ ap (λ (i : ℕ). numbers_in q (k + link) (range_with_len link i)) more
    ∙ ap (λ (b : Bool). if b then (k + link) ∷ numbers_in q (suc (k + link)) (left_links (link + 1)) else numbers_in q (suc (k + link)) (left_links (link + 1))) is
    ∙ ap (λ (i : ℕ). (k + link) ∷ numbers_in q i (left_links (link + 1))) next

pub no_number : (q : ℕ → Bool) (k from : ℕ) → from ≤ 32 → ((l : ℕ) → from ≤ l → l < 32 → q l ≡ false) → numbers_in q k (left_links from) ≡ []
unfolding left_links
no_number q k from inside none =
    let all : 32 - from ≡ (32 - from) + 0 = omega arith in
    ap (λ (i : ℕ). numbers_in q k (range_with_len from i)) all ∙ passed_numbers q k from (32 - from) 0 (λ l above below. none l above (omega (arith, below, inside)))

-- the same as a loop finds them that looks at links one by one, and where there is no further one
pub links_on : (q t : ℕ → Bool) (k from link : ℕ) (b : Bool) (so now total : List ℕ) → IsNextLink (λ l. t l && t l) from (Some link) → b ≡ q link → so ++ numbers_in q k (filter t (left_links from)) ≡ total → now ≡ so ++ numbers_in (λ (c : Bool). c) k (b ∷ []) →
    now ++ numbers_in q (k + 1) (filter t (left_links (link + 1))) ≡ total
links_on q t k from link b so now total next is before grown =
    let both : (t link && t link) ≡ true = next_is (λ l. t l && t l) from link next in
    let here : t link ≡ true = search (arith, both) in
    let later : k + 1 ≡ suc k = omega arith in
    let split : numbers_in q k (filter t (left_links from)) ≡ numbers_in (λ (c : Bool). c) k (b ∷ []) ++ numbers_in q (k + 1) (filter t (left_links (link + 1))) =
    ap (numbers_in q k) (next_left t from link (next_low (λ l. t l && t l) from link next) (next_high (λ l. t l && t l) from link next) (λ l low high. one_of (t l) (next_passed (λ l. t l && t l) from link next l low high)) here)
    ∙ ap (λ (c : Bool). if c then k ∷ numbers_in q (suc k) (filter t (left_links (link + 1))) else numbers_in q (suc k) (filter t (left_links (link + 1)))) (sym is)
    ∙ by_test b k (numbers_in q (suc k) (filter t (left_links (link + 1))))
    ∙ ap (λ (j : ℕ). numbers_in (λ (c : Bool). c) k (b ∷ []) ++ numbers_in q j (filter t (left_links (link + 1)))) (sym later) in
    joined_next so (numbers_in (λ (c : Bool). c) k (b ∷ [])) (numbers_in q (k + 1) (filter t (left_links (link + 1)))) (numbers_in q k (filter t (left_links from))) total now before split grown
  where
    one_of : (c : Bool) → (c && c) ≡ false → c ≡ false
    one_of c isnt = search arith

    by_test : (c : Bool) (k : ℕ) (rest : List ℕ) → (if c then k ∷ rest else rest) ≡ numbers_in (λ (d : Bool). d) k (c ∷ []) ++ rest
    by_test true k rest = refl
    by_test false k rest = refl

pub links_end : (q t : ℕ → Bool) (k from : ℕ) (so total : List ℕ) → from ≤ 32 → IsNextLink (λ l. t l && t l) from None → so ++ numbers_in q k (filter t (left_links from)) ≡ total → so ≡ total
links_end q t k from so total inside next before =
    joined_end so (numbers_in q k (filter t (left_links from))) total before (ap (numbers_in q k) (none_left t from inside (λ l low high. one_of (t l) (last_passed (λ l. t l && t l) from next l low high))))
  where
    one_of : (c : Bool) → (c && c) ≡ false → c ≡ false
    one_of c isnt = search arith

-- of lists of 32 each, one for each number: those of which none passes are left out
module _ {Y : Type 0} (q : Y → Bool) (f : ℕ → List Y) (size : ℕ) (sized : (l : ℕ) → length (f l) ≡ size) where
  abbrev pub numbers_from : ℕ → ℕ → ℕ → List ℕ
  numbers_from k a n = numbers_in q k (flat_map f (range_with_len a n))

  pub first_of : (k a n : ℕ) → numbers_from k a (suc n) ≡ numbers_in q k (f a) ++ numbers_from (k + size) (a + 1) n
  first_of k a n =
      numbers_append q k (f a) (flat_map f (range_with_len (a + 1) n))
      ∙ ap (λ (m : ℕ). numbers_in q k (f a) ++ numbers_from (k + m) (a + 1) n) (sized a)

  passed_all : (k a n m : ℕ) → ((l : ℕ) → a ≤ l → l < a + n → (j : ℕ) → numbers_in q j (f l) ≡ []) → numbers_from k a (n + m) ≡ numbers_from (k + n * size) (a + n) m
  passed_all k a zero m none =
      let all : 0 + m ≡ m = omega arith in
      let here : a ≡ a + 0 = omega arith in
      let same : k ≡ k + 0 * size = omega arith in
      ap (λ (i : ℕ). numbers_from k a i) all ∙ ap (λ (b : ℕ). numbers_from k b m) here ∙ ap (λ (i : ℕ). numbers_from i (a + 0) m) same
  passed_all k a (suc n) m none =
      let all : suc n + m ≡ suc (n + m) = omega arith in
      let here : a + 1 + n ≡ a + suc n = omega arith in
      let same : k + size + n * size ≡ k + suc n * size = search arith in
      ap (λ (i : ℕ). numbers_from k a i) all
      ∙ first_of k a (n + m)
      ∙ ap (λ (ns : List ℕ). ns ++ numbers_from (k + size) (a + 1) (n + m)) (none a (omega arith) (omega arith) k)
      ∙ passed_all (k + size) (a + 1) n m (λ l low high. none l (omega (arith, low)) (omega (arith, high)))
      ∙ ap (λ (b : ℕ). numbers_from (k + size + n * size) b m) here
      ∙ ap (λ (i : ℕ). numbers_from i (a + suc n) m) same

  -- the next that isn't left out
  pub next_all : (k from link : ℕ) → from ≤ link → link < 32 → ((l : ℕ) → from ≤ l → l < link → (j : ℕ) → numbers_in q j (f l) ≡ []) → numbers_from (k + from * size) from (32 - from) ≡ numbers_in q (k + link * size) (f link) ++ numbers_from (k + (link + 1) * size) (link + 1) (32 - (link + 1))
  next_all k from link low high none =
      let all : 32 - from ≡ (link - from) + (32 - link) = omega (arith, low, high) in
      let here : from + (link - from) ≡ link = omega (arith, low) in
      let more : 32 - link ≡ suc (32 - (link + 1)) = omega (arith, high) in
      let parts : link * size ≡ from * size + (link - from) * size = parts_of from link size low in
      let at : k + from * size + (link - from) * size ≡ k + link * size = omega (arith, parts) in
      let next : k + link * size + size ≡ k + (link + 1) * size = search arith in
      ap (λ (i : ℕ). numbers_from (k + from * size) from i) all
      ∙ passed_all (k + from * size) from (link - from) (32 - link) (λ l above below. none l above (omega (arith, below, low)))
      ∙ ap (λ (b : ℕ). numbers_from (k + from * size + (link - from) * size) b (32 - link)) here
      ∙ ap (λ (j : ℕ). numbers_from j link (32 - link)) at
      ∙ ap (λ (i : ℕ). numbers_from (k + link * size) link i) more
      ∙ first_of (k + link * size) link (32 - (link + 1))
      ∙ ap (λ (j : ℕ). numbers_in q (k + link * size) (f link) ++ numbers_from j (link + 1) (32 - (link + 1))) next
    where
      split : (a b c : ℕ) → (a + b) * c ≡ a * c + b * c
      split a b c = search arith

      parts_of : (a b c : ℕ) → a ≤ b → b * c ≡ a * c + (b - a) * c
      parts_of a b c low =
          let whole : b ≡ a + (b - a) = omega (arith, low) in
          ap (λ (m : ℕ). m * c) whole ∙ split a (b - a) c

  pub none_all : (k from : ℕ) → from ≤ 32 → ((l : ℕ) → from ≤ l → l < 32 → (j : ℕ) → numbers_in q j (f l) ≡ []) → numbers_from k from (32 - from) ≡ []
  none_all k from inside none =
      let all : 32 - from ≡ (32 - from) + 0 = omega arith in
      ap (λ (i : ℕ). numbers_from k from i) all ∙ passed_all k from (32 - from) 0 (λ l above below. none l above (omega (arith, below, inside)))
