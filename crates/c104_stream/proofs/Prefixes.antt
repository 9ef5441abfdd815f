-- A prefix of what was to be written, before and after other pieces. These lemmas are for the crates
-- above too.
use Rattle.{c104_stream.specs.Writing.{AppendsAndKeeps, AppendsPrefix}, std.proofs.Common.{List, Option, [], ap, arith, length, refl}}
use Rattle.std.proofs.{Common.{subst, sym, ℕ, ◌++◌, ◌+◌, ◌<◌, ◌∙◌, ◌≡◌}, KnownBytes.{Appends-nil, Appends-trans}, lemmas.List.length-append}
use Rattle.std.specs.Io.KnownBytes.{Appends}
use mathlib.Core.List.{append-nil, append_assoc}

-- more is left where something was
more_left : (xs more : List ℕ) → 0 < length xs → 0 < length (xs ++ more)
more_left xs more some = omega (arith, some, length-append xs more)

-- nothing can't be written but for a part
pub none_short : {A : Type 0} (held holds : Option (List ℕ)) (bytes : List ℕ) → bytes ≡ [] → AppendsPrefix held holds bytes → A
none_short held holds bytes none front =
    let size : length bytes ≡ length front.written + length front.unwritten = ap length front.is_prefix ∙ length-append front.written front.unwritten in
    let nothing : length bytes ≡ 0 = ap length none in
    absurd (omega (arith, size, nothing, front.is_short))

-- all was written but for what is left, and something is
pub some_left : (held holds : Option (List ℕ)) (rest bytes : List ℕ) → AppendsAndKeeps held holds rest bytes → 0 < length rest → AppendsPrefix held holds bytes
some_left held holds rest bytes was some = record {
  written = was.written;
  unwritten = rest;
  grew = was.grew;
  is_prefix = was.is_all;
  is_short = some;
}

-- a piece was written, and then a prefix of the next; more is to come after both
pub prefix_after : (held now holds : Option (List ℕ)) (first next more : List ℕ) → Appends held now first → AppendsPrefix now holds next → AppendsPrefix held holds (first ++ (next ++ more))
prefix_after held now holds first next more wrote front = record {
  written = first ++ front.written;
  unwritten = front.unwritten ++ more;
  grew = Appends-trans held now holds first front.written wrote front.grew;
  is_prefix = ap (λ xs. first ++ (xs ++ more)) front.is_prefix ∙ ap (λ xs. first ++ xs) (append_assoc front.written front.unwritten more) ∙ sym (append_assoc first front.written (front.unwritten ++ more));
  is_short = more_left front.unwritten more front.is_short;
}

-- a piece was written, and then a prefix of the next
pub prefix_next : (held now holds : Option (List ℕ)) (first next : List ℕ) → Appends held now first → AppendsPrefix now holds next → AppendsPrefix held holds (first ++ next)
prefix_next held now holds first next wrote front = record {
  written = first ++ front.written;
  unwritten = front.unwritten;
  grew = Appends-trans held now holds first front.written wrote front.grew;
  is_prefix = ap (λ xs. first ++ xs) front.is_prefix ∙ sym (append_assoc first front.written front.unwritten);
  is_short = front.is_short;
}

-- a prefix of a piece is one of what begins with it
pub prefix_longer : (held holds : Option (List ℕ)) (bytes more : List ℕ) → AppendsPrefix held holds bytes → AppendsPrefix held holds (bytes ++ more)
prefix_longer held holds bytes more front = record {
  written = front.written;
  unwritten = front.unwritten ++ more;
  grew = front.grew;
  is_prefix = ap (λ xs. xs ++ more) front.is_prefix ∙ append_assoc front.written front.unwritten more;
  is_short = more_left front.unwritten more front.is_short;
}

-- what is kept after the first is written with what was kept, and then the next joins it
pub kept_next : (held now holds : Option (List ℕ)) (kept more first next : List ℕ) → AppendsAndKeeps held now kept first → AppendsAndKeeps now holds more (kept ++ next) → AppendsAndKeeps held holds more (first ++ next)
kept_next held now holds kept more first next was is = record {
  written = was.written ++ is.written;
  grew = Appends-trans held now holds was.written is.written was.grew is.grew;
  is_all = ap (λ xs. xs ++ next) was.is_all ∙ append_assoc was.written kept next ∙ ap (λ xs. was.written ++ xs) is.is_all ∙ sym (append_assoc was.written is.written more);
}

-- a prefix of what was kept and of the next was written
pub kept_stops : (held now holds : Option (List ℕ)) (kept first next : List ℕ) → AppendsAndKeeps held now kept first → AppendsPrefix now holds (kept ++ next) → AppendsPrefix held holds (first ++ next)
kept_stops held now holds kept first next was front = record {
  written = was.written ++ front.written;
  unwritten = front.unwritten;
  grew = Appends-trans held now holds was.written front.written was.grew front.grew;
  is_prefix = ap (λ xs. xs ++ next) was.is_all ∙ append_assoc was.written kept next ∙ ap (λ xs. was.written ++ xs) front.is_prefix ∙ sym (append_assoc was.written front.written front.unwritten);
  is_short = front.is_short;
}

-- all that was kept was written
pub kept_all : (held now holds : Option (List ℕ)) (kept first : List ℕ) → AppendsAndKeeps held now kept first → Appends now holds kept → Appends held holds first
kept_all held now holds kept first was wrote = subst (λ text. Appends held holds text) (sym was.is_all) (Appends-trans held now holds was.written kept was.grew wrote)

-- nothing is written yet, and all is kept
pub kept_only : (held : Option (List ℕ)) (kept : List ℕ) → AppendsAndKeeps held held kept kept
kept_only held kept = record { written = []; grew = Appends-nil held; is_all = refl }

-- all is written, and nothing is kept
pub kept_none : (held holds : Option (List ℕ)) (kept bytes : List ℕ) → kept ≡ [] → Appends held holds bytes → AppendsAndKeeps held holds kept bytes
kept_none held holds kept bytes none wrote = record { written = bytes; grew = wrote; is_all = sym (append-nil bytes) ∙ ap (λ xs. bytes ++ xs) (sym none) }

-- nothing was kept, and the next is written past it
pub kept_past : (held now holds : Option (List ℕ)) (kept first next : List ℕ) → AppendsAndKeeps held now kept first → kept ≡ [] → Appends now holds next → AppendsAndKeeps held holds kept (first ++ next)
kept_past held now holds kept first next was none wrote =
    kept_next held now holds kept kept first next was (kept_none now holds kept (kept ++ next) none (subst (λ xs. Appends now holds (xs ++ next)) (sym none) wrote))

-- what was kept is written further
pub kept_on : (held now holds : Option (List ℕ)) (kept more first : List ℕ) → AppendsAndKeeps held now kept first → AppendsAndKeeps now holds more kept → AppendsAndKeeps held holds more first
kept_on held now holds kept more first was is =
    subst (λ xs. AppendsAndKeeps held holds more xs) (append-nil first) (kept_next held now holds kept more first [] was (subst (λ xs. AppendsAndKeeps now holds more xs) (sym (append-nil kept)) is))

-- a prefix of what was kept is written, and that is a prefix of all
pub kept_fails : (held now holds : Option (List ℕ)) (kept first more : List ℕ) → AppendsAndKeeps held now kept first → AppendsPrefix now holds kept → AppendsPrefix held holds (first ++ more)
kept_fails held now holds kept first more was front =
    kept_stops held now holds kept first more was (prefix_longer now holds kept more front)
