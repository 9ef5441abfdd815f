-- What the parts of a text are, whatever way they are computed.
use Rattle.{c104_plan.specs.TextCut.most_bytes, c104_script.specs.Parts.{AreOnlyParts, AreOtherLines, AreParts, HasNoScript, IsParted}}
use Rattle.{c104_script.specs.{Parts.{Parts, is_script_line, parts, parts_within}, TextLines.{ended, is_line}}, std.proofs.Common.Bool}
use Rattle.std.proofs.Common.{List, [], ap, arith, false, if◌then◌else◌, inl, inr, length, not, refl, subst, suc, sym, true, zero, ℕ, ◌&&◌}
use Rattle.std.proofs.{Common.{◌++◌, ◌+◌, ◌-◌, ◌<◌, ◌==◌, ◌||◌, ◌∙◌, ◌∷◌, ◌≡◌, ◌≤◌, ◌⊎◌}, lemmas.Bool.Decides.nat_tests}
use Rattle.std.proofs.lemmas.{Grind.flat_map-append, List.{Folds.{list_all-append, list_any-append}, append-nil, length-append}}
use Rattle.std.specs.List.{list_all, list_any}
use mathlib.Core.List.{append_assoc}

-- by both outcomes of a test
pub by_test : {A : Type 0} (P : A → Type 0) (test : Bool) (x y : A) → (test ≡ true → P x) → (test ≡ false → P y) → P (if test then x else y)
by_test P true x y met unmet = met refl
by_test P false x y met unmet = unmet refl

pub is_feed : (byte : ℕ) → (byte == 10) ≡ true → byte ≡ 10
is_feed byte is = grind (arith, nat_tests, is)

-- one byte more of a line
pub line_on : (line : List ℕ) (byte : ℕ) → is_line line ≡ true → (byte == 10) ≡ false → is_line (line ++ byte ∷ []) ≡ true
line_on line byte is other = list_all-append (λ b. not (b == 10)) line (byte ∷ []) ∙ ap (λ t. t && (not (byte == 10) && true)) is ∙ ap (λ t. not t && true) other

pub no_lines : AreOtherLines []
no_lines = record { lines = []; are_all = refl; are_lines = refl; are_others = refl }

-- one line more
pub lines_on : (front line : List ℕ) → AreOtherLines front → is_line line ≡ true → is_script_line line ≡ false → AreOtherLines (front ++ line ++ 10 ∷ [])
lines_on front line before is other = record {
  lines = before.lines ++ line ∷ [];
  are_all = append_assoc front line (10 ∷ []) ∙ ap (λ text. text ++ (line ++ 10 ∷ [])) before.are_all ∙ ap (λ text. ended before.lines ++ text) (sym (append-nil (line ++ 10 ∷ []))) ∙ sym (flat_map-append (λ (l : List ℕ). l ++ 10 ∷ []) before.lines (line ∷ []));
  are_lines = list_all-append is_line before.lines (line ∷ []) ∙ ap (λ t. t && (is_line line && true)) before.are_lines ∙ ap (λ t. t && true) is;
  are_others = list_any-append is_script_line before.lines (line ∷ []) ∙ ap (λ t. t || (is_script_line line || false)) before.are_others ∙ ap (λ t. t || false) other;
}

-- the parts of a text, of which the front and a part of a line are read
abbrev Due : ℕ → List ℕ → Parts → Type 0
Due most text both = IsParted most text both ⊎ (HasNoScript most text × (both ≡ record { description = text; script = [] }))

parted : (most bytes : ℕ) (front line text : List ℕ) → AreOtherLines front → is_line line ≡ true → length front + length line + bytes ≡ most → Due most (front ++ (line ++ text)) (parts_within bytes front line text)
parted most bytes front line [] before is size =
    let all : front ++ (line ++ []) ≡ front ++ line = ap (λ xs. front ++ xs) (append-nil line) in
    let room : length (front ++ (line ++ [])) ≤ most = omega (arith, ap length all, length-append front line, size) in
    by_test (Due most (front ++ (line ++ []))) (is_script_line line) _ _
    (λ script. inl (record { line = line; is_line = is; is_script = script; before = before; is_text = inr (all, refl, room) }))
    (λ other. inr (record { front = front; line = line; rest = []; is_text = refl; before = before; is_line = is; is_over = inl (refl, room, other) }, ap (λ xs. record { description = xs; script = [] }) (sym all)))
parted most zero front line (byte ∷ text) before is size =
    let full : length front + length line ≡ most = omega (arith, size) in
    let long : most < length (front ++ (line ++ byte ∷ text)) = omega (arith, full, length-append front (line ++ byte ∷ text), length-append line (byte ∷ text)) in
    inr (record { front = front; line = line; rest = byte ∷ text; is_text = refl; before = before; is_line = is; is_over = inr (full, long) }, ap (λ xs. record { description = xs; script = [] }) (append_assoc front line (byte ∷ text)))
parted most (suc bytes) front line (byte ∷ text) before is size =
    by_test (Due most (front ++ (line ++ byte ∷ text))) (byte == 10) _ _
    (λ feed. by_test (Due most (front ++ (line ++ byte ∷ text))) (is_script_line line) _ _
    (λ script. inl (record { line = line; is_line = is; is_script = script; before = before; is_text = inl (ap (λ b. front ++ (line ++ b ∷ text)) (is_feed byte feed), omega (arith, size)) }))
    (λ other.
    let more : List ℕ = front ++ line ++ 10 ∷ [] in
    let count : length more + 0 + bytes ≡ most = omega (arith, size, length-append (front ++ line) (10 ∷ []), length-append front line) in
    let same : more ++ text ≡ front ++ (line ++ byte ∷ text) = append_assoc (front ++ line) (10 ∷ []) text ∙ append_assoc front line (10 ∷ text) ∙ ap (λ b. front ++ (line ++ b ∷ text)) (sym (is_feed byte feed)) in
    subst (λ xs. Due most xs (parts_within bytes more [] text)) same (parted most bytes more [] text (lines_on front line before is other) refl count)))
    (λ other.
    let count : length front + length (line ++ byte ∷ []) + bytes ≡ most = omega (arith, size, length-append line (byte ∷ [])) in
    let same : front ++ ((line ++ byte ∷ []) ++ text) ≡ front ++ (line ++ byte ∷ text) = ap (λ xs. front ++ xs) (append_assoc line (byte ∷ []) text) in
    subst (λ xs. Due most xs (parts_within bytes front (line ++ byte ∷ []) text)) same (parted most bytes front (line ++ byte ∷ []) text before (line_on line byte is other) count))

-- what a line says of its first byte
pub first_is : (first : Bool) (others : Bool) → (not first && others) ≡ true → (first ≡ false) × (others ≡ true)
first_is true others is = absurd (cc is)
first_is false others is = (refl, is)

-- both of two
pub both_are : (first : Bool) (others : Bool) → (first && others) ≡ true → (first ≡ true) × (others ≡ true)
both_are false others is = absurd (cc is)
both_are true others is = (refl, is)

-- none of two
neither : (first : Bool) (others : Bool) → (first || others) ≡ false → (first ≡ false) × (others ≡ false)
neither true others is = absurd (cc is)
neither false others is = (refl, is)

-- a piece without a line feed is read
piece_read : (most bytes : ℕ) (front part line text : List ℕ) → is_line line ≡ true → most ≡ length line + bytes → parts_within most front part (line ++ text) ≡ parts_within bytes front (part ++ line) text
piece_read most bytes front part [] text is size =
    let same : most ≡ bytes = omega (arith, size) in
    ap (λ n. parts_within n front part text) same ∙ ap (λ xs. parts_within bytes front xs text) (sym (append-nil part))
piece_read zero bytes front part (byte ∷ line) text is size = absurd (omega (arith, size))
piece_read (suc most) bytes front part (byte ∷ line) text is size =
    let both : ((byte == 10) ≡ false) × (is_line line ≡ true) = first_is (byte == 10) (is_line line) is in
    let less : most ≡ length line + bytes = omega (arith, size) in
    ap (λ t. if t then (if is_script_line part then record { description = front; script = line ++ text } else parts_within most (front ++ part ++ 10 ∷ []) [] (line ++ text)) else parts_within most front (part ++ byte ∷ []) (line ++ text)) both.0
    ∙ piece_read most bytes front (part ++ byte ∷ []) line text both.1 less
    ∙ ap (λ xs. parts_within bytes front xs text) (append_assoc part (byte ∷ []) line)

-- whole lines are read, none of which is the line `script`
lines_read : (lines : List (List ℕ)) (most bytes : ℕ) (front text : List ℕ) → list_all is_line lines ≡ true → list_any is_script_line lines ≡ false → most ≡ length (ended lines) + bytes → parts_within most front [] (ended lines ++ text) ≡ parts_within bytes (front ++ ended lines) [] text
lines_read [] most bytes front text are others size =
    let same : most ≡ bytes = omega (arith, size) in
    ap (λ n. parts_within n front [] text) same ∙ ap (λ xs. parts_within bytes xs [] text) (sym (append-nil front))
lines_read (line ∷ lines) most bytes front text are others size =
    let is : (is_line line ≡ true) × (list_all is_line lines ≡ true) = both_are (is_line line) (list_all is_line lines) are in
    let other : (is_script_line line ≡ false) × (list_any is_script_line lines ≡ false) = neither (is_script_line line) (list_any is_script_line lines) others in
    let left : ℕ = length (ended lines) + bytes in
    let rest : List ℕ = ended lines ++ text in
    let count : most ≡ length line + suc left = omega (arith, size, length-append (line ++ 10 ∷ []) (ended lines), length-append line (10 ∷ [])) in
    let more : List ℕ = front ++ line ++ 10 ∷ [] in
    ap (λ xs. parts_within most front [] xs) (append_assoc (line ++ 10 ∷ []) (ended lines) text ∙ append_assoc line (10 ∷ []) rest)
    ∙ piece_read most (suc left) front [] line (10 ∷ rest) is.0 count
    ∙ ap (λ t. if t then record { description = front; script = rest } else parts_within left more [] rest) other.0
    ∙ lines_read lines left bytes more text is.1 other.1 refl
    ∙ ap (λ xs. parts_within bytes xs [] text) (append_assoc (front ++ line) (10 ∷ []) (ended lines) ∙ append_assoc front line (10 ∷ ended lines) ∙ ap (λ xs. front ++ xs) (sym (append_assoc line (10 ∷ []) (ended lines))))

-- other lines are read, and a piece of the next
front_read : (most bytes : ℕ) (front line text : List ℕ) → AreOtherLines front → is_line line ≡ true → most ≡ length front + length line + bytes → parts_within most [] [] (front ++ (line ++ text)) ≡ parts_within bytes front line text
front_read most bytes front line text before is size =
    let left : ℕ = length line + bytes in
    let count : most ≡ length (ended before.lines) + left = omega (arith, size, ap length before.are_all) in
    ap (λ xs. parts_within most [] [] (xs ++ (line ++ text))) before.are_all
    ∙ lines_read before.lines most left [] (line ++ text) before.are_lines before.are_others count
    ∙ ap (λ xs. parts_within left xs [] (line ++ text)) (sym before.are_all)
    ∙ piece_read left bytes front [] line text is refl

-- so the computation finds the line `script`
found : (most : ℕ) (text : List ℕ) (both : Parts) → IsParted most text both → parts_within most [] [] text ≡ both
found most text both is = at is.is_text
  where
    at : ((text ≡ both.description ++ (is.line ++ 10 ∷ both.script)) × (length both.description + length is.line < most)) ⊎ ((text ≡ both.description ++ is.line) × (both.script ≡ []) × (length text ≤ most)) → parts_within most [] [] text ≡ both
    at (inl fed) =
        let left : ℕ = most - (length both.description + length is.line) - 1 in
        let count : most ≡ length both.description + length is.line + suc left = omega (arith, fed.1) in
        let reads : parts_within most [] [] text ≡ parts_within (suc left) both.description is.line (10 ∷ both.script) =
        ap (λ xs. parts_within most [] [] xs) fed.0 ∙ front_read most (suc left) both.description is.line (10 ∷ both.script) is.before is.is_line count in
        reads ∙ ap (λ t. if t then both else parts_within left (both.description ++ is.line ++ 10 ∷ []) [] both.script) is.is_script
    at (inr last) =
        let left : ℕ = most - (length both.description + length is.line) in
        let count : most ≡ length both.description + length is.line + left = omega (arith, last.2, ap length last.0, length-append both.description is.line) in
        let all : text ≡ both.description ++ (is.line ++ []) = last.0 ∙ ap (λ xs. both.description ++ xs) (sym (append-nil is.line)) in
        let reads : parts_within most [] [] text ≡ parts_within left both.description is.line [] =
        ap (λ xs. parts_within most [] [] xs) all ∙ front_read most left both.description is.line [] is.before is.is_line count in
        let ends : parts_within left both.description is.line [] ≡ record { description = both.description; script = [] } =
        ap (λ t. if t then record { description = both.description; script = [] } else record { description = both.description ++ is.line; script = [] }) is.is_script in
        reads ∙ ends ∙ ap (λ xs. record { description = both.description; script = xs }) (sym last.1)

-- or that there is none
not_found : (most : ℕ) (text : List ℕ) → HasNoScript most text → parts_within most [] [] text ≡ record { description = text; script = [] }
not_found most text is = at is.rest is.is_text is.is_over
  where
    at : (rest : List ℕ) → text ≡ is.front ++ (is.line ++ rest) → ((rest ≡ []) × (length text ≤ most) × (is_script_line is.line ≡ false)) ⊎ ((length is.front + length is.line ≡ most) × (most < length text)) → parts_within most [] [] text ≡ record { description = text; script = [] }
    at rest is_text (inl last) =
        let all : text ≡ is.front ++ (is.line ++ []) = is_text ∙ ap (λ xs. is.front ++ (is.line ++ xs)) last.0 in
        let left : ℕ = most - (length is.front + length is.line) in
        let count : most ≡ length is.front + length is.line + left = omega (arith, last.1, ap length all, length-append is.front (is.line ++ []), length-append is.line []) in
        let reads : parts_within most [] [] text ≡ parts_within left is.front is.line [] =
        ap (λ xs. parts_within most [] [] xs) all ∙ front_read most left is.front is.line [] is.before is.is_line count in
        let ends : parts_within left is.front is.line [] ≡ record { description = is.front ++ is.line; script = [] } =
        ap (λ t. if t then record { description = is.front; script = [] } else record { description = is.front ++ is.line; script = [] }) last.2 in
        reads ∙ ends ∙ ap (λ xs. record { description = xs; script = [] }) (ap (λ xs. is.front ++ xs) (sym (append-nil is.line)) ∙ sym all)
    at [] is_text (inr long) = absurd (omega (arith, long.0, long.1, ap length is_text, length-append is.front (is.line ++ []), length-append is.line []))
    at (byte ∷ rest) is_text (inr long) =
        let count : most ≡ length is.front + length is.line + 0 = omega (arith, long.0) in
        ap (λ xs. parts_within most [] [] xs) is_text ∙ front_read most 0 is.front is.line (byte ∷ rest) is.before is.is_line count
        ∙ ap (λ xs. record { description = xs; script = [] }) (append_assoc is.front is.line (byte ∷ rest) ∙ sym is_text)

-- the parts of a text are those that are computed, and no others
pub parts_law : (text : List ℕ) → AreOnlyParts text (parts text)
unfolding parts AreOnlyParts
parts_law text = (parted most_bytes most_bytes [] [] text no_lines refl (omega arith), only)
  where
    only : (both : Parts) → AreParts text both → both ≡ parts_within most_bytes [] [] text
    only both (inl is) = sym (found most_bytes text both is)
    only both (inr none) = none.1 ∙ sym (not_found most_bytes text none.0)
