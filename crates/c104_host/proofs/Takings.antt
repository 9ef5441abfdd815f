-- What a reader gave piece by piece, and whether it may have more.
use Rattle.{c104_host.specs.{Holding.{GaveUpTo, TakesPiece}, declared.held.TextEnd.TextEnd}, std.proofs.Common.{List, None, Option, Some}}
use Rattle.std.proofs.Common.{[], ap, append_assoc, arith, inl, inr, length, refl, subst, sym, take, ℕ, ◌++◌, ◌+◌, ◌<◌, ◌∙◌, ◌≡◌, ◌≤◌}
use Rattle.std.{proofs.{Math.Nat.min-le_left, lemmas.List.{length-append, length-take}}, specs.Io.KnownBytes.{Consumes, Keeps}}

-- nothing was taken yet
pub gave_none : (known : Option (List ℕ)) (bytes : List ℕ) → bytes ≡ [] → Consumes known known bytes
gave_none None bytes none = tt
gave_none (Some text) bytes none = ap (λ xs. xs ++ text) (sym none)

-- a further piece was taken
pub gave_more : (old middle new : Option (List ℕ)) (bytes piece : List ℕ) → Consumes old middle bytes → Consumes middle new piece → Consumes old new (bytes ++ piece)
gave_more None middle new bytes piece took gave = tt
gave_more (Some text) None new bytes piece took gave = absurd took
gave_more (Some text) (Some rest) None bytes piece took gave = absurd gave
gave_more (Some text) (Some rest) (Some left) bytes piece took gave =
    took ∙ ap (λ xs. bytes ++ xs) gave ∙ sym (append_assoc bytes piece left)

-- an empty piece leaves what there was
pub keeps_all : (old new : Option (List ℕ)) → Consumes old new [] → Keeps old new
keeps_all None new gave = tt
keeps_all (Some text) None gave = absurd gave
keeps_all (Some text) (Some left) gave = sym gave

-- a piece that was taken joins what was taken before
joined : (most room : ℕ) (old middle new : Option (List ℕ)) (before after : List ℕ) (end : Option TextEnd) → length before + room ≤ most + 1
    → Consumes old middle before → TakesPiece room middle new before after end → (length after ≤ most + 1) × Consumes old new after
joined most room old middle new before after end fits took takes =
    let size : length after ≡ length before + length takes.piece = ap length takes.joined ∙ length-append before takes.piece in
    (omega (arith, size, fits, takes.few), subst (λ xs. Consumes old new xs) (sym takes.joined) (gave_more old middle new before takes.piece took takes.gave))

-- and the text goes on
pub goes_on : (most room : ℕ) (old middle new : Option (List ℕ)) (before after : List ℕ) → length before + room ≤ most + 1
    → Consumes old middle before → TakesPiece room middle new before after None → (length after ≤ most + 1) × Consumes old new after
goes_on most room old middle new before after fits took takes = joined most room old middle new before after None fits took takes

-- or the text ended
pub ended : (most room : ℕ) (old middle new : Option (List ℕ)) (before after : List ℕ) (how : TextEnd) → length before + room ≤ most + 1
    → Consumes old middle before → TakesPiece room middle new before after (Some how) → GaveUpTo most old new after how
ended most room old middle new before after how fits took takes =
    let both = joined most room old middle new before after (Some how) fits took takes in
    record { gave = both.1; few = both.0; all = λ is. inl (takes.none.1 is) }

-- where it goes on there are more bytes than before
pub longer : (room : ℕ) (middle new : Option (List ℕ)) (before after : List ℕ) → TakesPiece room middle new before after None → length before < length after
longer room middle new before after takes =
    let size : length after ≡ length before + length takes.piece = ap length takes.joined ∙ length-append before takes.piece in
    omega (arith, size, takes.some refl)

-- one byte more was taken than there may be
pub past : (most : ℕ) (old new : Option (List ℕ)) (bytes : List ℕ) → length bytes ≡ most + 1 → Consumes old new bytes → GaveUpTo most old new bytes TextEnd.Whole
past most old new bytes size took = record { gave = took; few = omega (arith, size); all = λ is. inr size }

-- a front is no longer than that
pub take_short : (n : ℕ) (xs : List ℕ) → length (take n xs) ≤ n
take_short n xs = omega (arith, length-take n xs, min-le_left n (length xs))
