-- Parts of a log: those of seats, and what holds of them.
use Rattle.c104_tickets.specs.{Tickets.{Each, IsInside, PassValue, kept_if, part_of}, declared.views.{Done.Done, Name.Name, Terms.Terms}}
use Rattle.{c104_tickets.specs.declared.views.Track.Track, c104_turns.specs.{Calls.done_call, Logs.{call_if, calls_in}}}
use Rattle.std.proofs.Common.{Bool, List, Some, [], ap, arith, false, length, map, nat_eq, refl, slice_index_or, subst, suc, sym, true}
use Rattle.std.proofs.{Common.{zero, ℕ, ◌<◌, ◌==◌, ◌∷◌, ◌≡◌}, lemmas.Bool.Decides.nat_tests}

pub itself : (n : ℕ) → (n == n) ≡ true
itself n = grind (arith, nat_tests)

-- a track is a part of a log
abbrev pub IsPart : List Done → Track → Type 0
IsPart log track = track.done ≡ part_of track.name log

-- the calls of a seat are those of its part
pub seat_part : (s : ℕ) (log : List Done) → map done_call (part_of (Name.Seat s) log) ≡ calls_in s log
seat_part s [] = refl
seat_part s (d ∷ ds) = by_test (nat_eq d.deed.seat s) (seat_part s ds)
  where
    by_test : (b : Bool) → map done_call (part_of (Name.Seat s) ds) ≡ calls_in s ds
        → map done_call (kept_if b d (part_of (Name.Seat s) ds)) ≡ call_if b d (calls_in s ds)
    by_test true rest = ap (λ cs. done_call d ∷ cs) rest
    by_test false rest = rest

-- the seats of a log are those that there are
pub seats_inside : (terms : Terms) (count : ℕ) (log : List Done) → count ≡ terms.seats → Each (IsInside terms) log
    → Each (λ d. d.deed.seat < count) log
seats_inside terms count [] is each = tt
seats_inside terms count (d ∷ log) is each =
    (subst (λ n. d.deed.seat < n) (sym is) (each.0 (Name.Seat d.deed.seat) (itself d.deed.seat)), seats_inside terms count log is each.1)

-- what holds of all holds of each
pub each_at : {X : Type 0} (P : X → Type 0) (seats : List X) (i : ℕ) (d : X) → Each P seats → i < length seats → P (slice_index_or seats i d)
each_at P [] i d each inside = absurd (let no : ⊥ = omega (arith, inside) in no)
each_at P (s ∷ seats) zero d each inside = each.0
each_at P (s ∷ seats) (suc i) d each inside = each_at P seats i d each.1 (omega (arith, inside))

-- the same pass, if there is one
pub same_pass : (p q : PassValue) → Some p ≡ Some q → p ≡ q
same_pass p q is = cc
