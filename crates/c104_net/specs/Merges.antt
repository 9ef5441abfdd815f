-- Things with tickets, merged: by ticket, and those of one ticket as they stood.
use Rattle.std.specs.Prelude.{List, [], if◌then◌else◌, nat_le, ℕ, ◌∷◌}

-- a thing with a ticket joins others that stand by their tickets: before those that have its ticket or a later one
abbrev pub join_by_ticket : {X : Type 0} → ℕ × X → List (ℕ × X) → List (ℕ × X)
join_by_ticket x [] = x ∷ []
join_by_ticket x (y ∷ ys) = if nat_le x.0 y.0 then x ∷ y ∷ ys else y ∷ join_by_ticket x ys

-- things by their tickets, and those of one ticket as they stood
abbrev pub by_ticket : {X : Type 0} → List (ℕ × X) → List (ℕ × X)
by_ticket [] = []
by_ticket (x ∷ xs) = join_by_ticket x (by_ticket xs)
