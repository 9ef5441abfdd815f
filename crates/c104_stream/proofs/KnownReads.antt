-- How a reader's known bytes go to those read ahead, and from there one by one to what was taken.
use Rattle.{c104_stream.specs.Reading.piece_before, std.proofs.Common.{List, None, Option, Some, [], ap, append_assoc, arith, drop}}
use Rattle.std.proofs.Common.{drop-cons, get_or, length, min, refl, slice_range, suc, sym, take, take-append-drop, zero, ℕ, ◌++◌, ◌+◌, ◌-◌}
use Rattle.std.proofs.{Common.{◌<◌, ◌==◌, ◌∙◌, ◌∷◌, ◌≡◌, ◌≤◌}, Math.Nat.min-le_right, lemmas.List.{drop-drop, drop-take, drop_min}}
use Rattle.std.{proofs.lemmas.List.{length-take-le, take_min}, specs.{Io.KnownBytes.{Consumes, Keeps, prepend_known}, List.before_first}}

-- a piece that was read stands before what the reader has left
pub filled : (old new : Option (List ℕ)) (before piece : List ℕ) → before ≡ [] → Consumes old new piece → Keeps (prepend_known before old) (prepend_known piece new)
filled None new before piece none took = tt
filled (Some text) None before piece none took = absurd took
filled (Some text) (Some rest) before piece none took = sym took ∙ ap (λ xs. xs ++ text) (sym none)

-- the first byte of what was read ahead was taken
pub gave_byte : (old new : Option (List ℕ)) (before piece rest : List ℕ) (byte : ℕ) → Keeps (prepend_known before old) (prepend_known piece new) → piece ≡ byte ∷ rest
    → Consumes (prepend_known before old) (prepend_known rest new) (byte ∷ [])
gave_byte None new before piece rest byte kept split = tt
gave_byte (Some text) None before piece rest byte kept split = absurd kept
gave_byte (Some text) (Some left) before piece rest byte kept split = sym kept ∙ ap (λ xs. xs ++ left) split

-- nothing lies between the ends
pub nothing_between : (xs : List ℕ) (start end : ℕ) → end ≤ start → slice_range xs start end ≡ []
nothing_between xs start end over =
    let none : end - start ≡ 0 = omega arith in
    ap (λ n. take n (drop start xs)) none

-- what lies between the ends begins with the first byte there
pub first_between : (xs : List ℕ) (start end byte : ℕ) → start < end → end ≤ length xs → byte ≡ get_or xs start byte → slice_range xs start end ≡ byte ∷ slice_range xs (start + 1) end
first_between xs start end byte some within is =
    let inside : start < length xs = omega arith in
    let count : end - start ≡ suc (end - (start + 1)) = omega arith in
    let next : suc start ≡ start + 1 = omega arith in
    let split : drop start xs ≡ byte ∷ drop (start + 1) xs = drop-cons xs start byte inside ∙ ap (λ b. b ∷ drop (suc start) xs) (sym is) ∙ ap (λ n. byte ∷ drop n xs) next in
    ap (λ n. take n (drop start xs)) count ∙ ap (take (suc (end - (start + 1)))) split

-- so is a front of a front
front_of_front : (n m : ℕ) (xs : List ℕ) → take n (take m xs) ≡ take (length (take n (take m xs))) xs
front_of_front zero m xs = refl
front_of_front (suc n) zero xs = refl
front_of_front (suc n) (suc m) [] = refl
front_of_front (suc n) (suc m) (x ∷ xs) = ap (λ ys. x ∷ ys) (front_of_front n m xs)

-- what lies between the ends, without the first n
between_after : (xs : List ℕ) (start end n : ℕ) → n ≤ end - start → drop n (slice_range xs start end) ≡ slice_range xs (start + n) end
between_after xs start end n within =
    let count : end - start ≡ n + (end - (start + n)) = omega (arith, within) in
    ap (λ m. drop n (take m (drop start xs))) count ∙ drop-take n (end - (start + n)) (drop start xs) ∙ ap (take (end - (start + n))) (drop-drop n start xs)

-- what stands before a byte was taken, and what lies after it stays
pub took_before : (xs old front piece : List ℕ) (start end most byte : ℕ) → slice_range xs start end ≡ old → length old ≡ end - start → front ≡ take (min most (length old)) old → piece ≡ before_first (λ other. other == byte) front → length piece ≤ length old
    → (piece ≡ piece_before byte most old) × (old ≡ piece ++ slice_range xs (start + length piece) end)
took_before xs old front piece start end most byte is_old size is_front is_piece short =
    let all : front ≡ take most old = is_front ∙ take_min most old in
    let is : piece ≡ piece_before byte most old = is_piece ∙ ap (before_first (λ other. other == byte)) all in
    let begins : take (length piece) old ≡ piece = ap (λ ys. take (length ys) old) is ∙ sym (front_of_front _ most old) ∙ sym is in
    let within : length piece ≤ end - start = omega (arith, short, size) in
    let rest : drop (length piece) old ≡ slice_range xs (start + length piece) end = ap (drop (length piece)) (sym is_old) ∙ between_after xs start end (length piece) within in
    (is, sym (take-append-drop (length piece) old) ∙ ap (λ ys. ys ++ drop (length piece) old) begins ∙ ap (λ ys. piece ++ ys) rest)

-- as much of what was read ahead was taken as may be
pub took_front : (xs old : List ℕ) (start end most count : ℕ) → slice_range xs start end ≡ old → length old ≡ end - start → count ≡ min most (length old)
    → (slice_range xs (start + length (take count old)) end ≡ drop most old) × (take count old ≡ take most old)
took_front xs old start end most count is_old size is_count =
    let short : count ≤ length old = omega (arith, is_count, min-le_right most (length old)) in
    let within : count ≤ end - start = omega (arith, short, size) in (
      ap (λ n. slice_range xs (start + n) end) (length-take-le count old short) ∙ sym (between_after xs start end count within) ∙ ap (drop count) is_old ∙ ap (λ n. drop n old) is_count ∙ drop_min most old,
      ap (λ n. take n old) is_count ∙ take_min most old,
    )

-- and joins what was taken, behind a byte
pub took_more : (old new left : Option (List ℕ)) (before ahead taken : List ℕ) (byte most : ℕ) → Consumes old (prepend_known before new) taken
    → Consumes (prepend_known before new) (prepend_known ahead left) (byte ∷ []) → Consumes old (prepend_known (drop most ahead) left) ((taken ++ byte ∷ []) ++ take most ahead)
took_more None new left before ahead taken byte most took gave = tt
took_more (Some text) None left before ahead taken byte most took gave = absurd took
took_more (Some text) (Some rest) None before ahead taken byte most took gave = absurd gave
took_more (Some text) (Some rest) (Some more) before ahead taken byte most took gave =
    let front : List ℕ = take most ahead in
    let behind : List ℕ = drop most ahead ++ more in
    let one : List ℕ = byte ∷ [] in
    let whole : ahead ++ more ≡ front ++ behind = ap (λ xs. xs ++ more) (sym (take-append-drop most ahead)) ∙ append_assoc front (drop most ahead) more in
    let joined : ((taken ++ one) ++ front) ++ behind ≡ taken ++ (one ++ (front ++ behind)) = append_assoc (taken ++ one) front behind ∙ append_assoc taken one (front ++ behind) in
    took ∙ ap (λ xs. taken ++ xs) (gave ∙ ap (λ xs. one ++ xs) whole) ∙ sym joined
