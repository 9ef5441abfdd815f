-- Texts that join what is kept, one after the other.
use Rattle.c104_stream.{proofs.Prefixes.{kept_fails, kept_next, kept_stops, prefix_longer}, specs.Writing.{AppendsAndKeeps, AppendsPrefix}}
use Rattle.std.proofs.Common.{List, OnErr, Option, Result, [], append-nil, append_assoc, arith, drop, flat_map, get_or, length, subst, ℕ}
use Rattle.std.proofs.{Common.{◌++◌, ◌+◌, ◌<◌, ◌≡◌}, Math.Seq.drop-cons}

-- where it is known at every result, it is at an error
pub at_error : {T E : Type 0} (P : Type 0) (result : Result T E) → P → OnErr result P
at_error P result known = search arith

-- both join
pub joins_both : (held now holds : Option (List ℕ)) (kept between keeps first next : List ℕ) → AppendsAndKeeps held now between (kept ++ first) → AppendsAndKeeps now holds keeps (between ++ next) → AppendsAndKeeps held holds keeps (kept ++ (first ++ next))
joins_both held now holds kept between keeps first next was is = search (arith, append_assoc, kept_next)

-- the first is written only in part
pub joins_first : (held holds : Option (List ℕ)) (kept first next : List ℕ) → AppendsPrefix held holds (kept ++ first) → AppendsPrefix held holds (kept ++ (first ++ next))
joins_first held holds kept first next front = search (arith, append_assoc, prefix_longer)

-- or the second is
pub joins_next : (held now holds : Option (List ℕ)) (kept between first next : List ℕ) → AppendsAndKeeps held now between (kept ++ first) → AppendsPrefix now holds (between ++ next) → AppendsPrefix held holds (kept ++ (first ++ next))
joins_next held now holds kept between first next was front =
    subst (λ text. AppendsPrefix held holds text) (append_assoc kept first next) (kept_stops held now holds between (kept ++ first) next was front)

-- the same of a text that is the same
pub joins_same : (held holds : Option (List ℕ)) (kept keeps one other : List ℕ) → one ≡ other → AppendsAndKeeps held holds keeps (kept ++ one) → AppendsAndKeeps held holds keeps (kept ++ other)
joins_same held holds kept keeps one other same was = subst (λ text. AppendsAndKeeps held holds keeps (kept ++ text)) same was

pub stops_same : (held holds : Option (List ℕ)) (kept one other : List ℕ) → one ≡ other → AppendsPrefix held holds (kept ++ one) → AppendsPrefix held holds (kept ++ other)
stops_same held holds kept one other same was = subst (λ text. AppendsPrefix held holds (kept ++ text)) same was

-- where nothing was kept before, all joined that is kept, and then a part of that is written
pub text_stops : (held now holds : Option (List ℕ)) (kept between text : List ℕ) → kept ≡ [] → AppendsAndKeeps held now between (kept ++ text) → AppendsPrefix now holds between → AppendsPrefix held holds text
text_stops held now holds kept between text none was front =
    subst (λ xs. AppendsPrefix held holds xs) (append-nil text) (kept_fails held now holds between text [] (subst (λ xs. AppendsAndKeeps held now between (xs ++ text)) none was) front)

-- Text by text

-- the texts of the elements before this place have joined what is kept, and those that are left make all of it
pub record Reached {A : Type 0} (f : A → List ℕ) (xs : List A) (held holds : Option (List ℕ)) (kept all : List ℕ) (place : ℕ) : Type 0 where
  pub done : List ℕ
  pub grew : AppendsAndKeeps held holds kept done
  pub rest : done ++ flat_map f (drop place xs) ≡ all

module _ {A : Type 0} (f : A → List ℕ) (xs : List A) (place : ℕ) (held now holds : Option (List ℕ)) (kept all : List ℕ) (reached : Reached f xs held now kept all place) (x default : A) where
  -- the rest behind the text of this element
  rest_is : place < length xs → x ≡ get_or xs place default → (reached.done ++ f x) ++ flat_map f (drop (place + 1) xs) ≡ all
  rest_is inside is = search (arith, drop-cons, flat_map, append_assoc)

  pub reached_next : (keeps : List ℕ) → place < length xs → x ≡ get_or xs place default → AppendsAndKeeps now holds keeps (kept ++ f x) → Reached f xs held holds keeps all (place + 1)
  reached_next keeps inside is next = search (arith, kept_next, rest_is)

  pub reached_stops : place < length xs → x ≡ get_or xs place default → AppendsPrefix now holds (kept ++ f x) → AppendsPrefix held holds all
  reached_stops inside is front =
      subst (λ text. AppendsPrefix held holds text) (rest_is inside is)
      (prefix_longer held holds (reached.done ++ f x) (flat_map f (drop (place + 1) xs)) (kept_stops held now holds kept reached.done (f x) reached.grew front))
