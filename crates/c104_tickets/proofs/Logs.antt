-- A log and its parts: what one more deed at its end adds, how long it can be, and that its tickets come before the next.
use Rattle.c104_tickets.specs.{Tickets.{AreNumbered, Each, IsInside, belongs, is_same, kept_if, part_of}, declared.TheConstants.SEAT_LIMIT}
use Rattle.{c104_tickets.specs.declared.{TheConstants.TICKET_LIMIT, views.{Done.Done, Name.Name, Terms.Terms}}, std.proofs.Common.Bool}
use Rattle.std.proofs.Common.{List, [], ap, append-nil, arith, cond, false, length, map, refl, suc, true, zero, ℕ, ◌*◌, ◌++◌, ◌+◌, ◌<◌, ◌∙◌}
use Rattle.std.{proofs.{Common.{◌∷◌, ◌≡◌, ◌≤◌}, lemmas.Bool.Decides.nat_tests}, specs.Prelude.{nat_lt, ◌==◌}}

-- what holds of each

pub each_append : {A : Type 0} (P : A → Type 0) (xs ys : List A) → Each P xs → Each P ys → Each P (xs ++ ys)
each_append P [] ys each rest = rest
each_append P (x ∷ xs) ys each rest = (each.0, each_append P xs ys each.1 rest)

module _ {A : Type 0} (P Q : A → Type 0) where
  pub each_map : (f : A → A) (xs : List A) → ((x : A) → P x → Q (f x)) → Each P xs → Each Q (map f xs)
  each_map f [] so each = tt
  each_map f (x ∷ xs) so each = (so x each.0, each_map f xs so each.1)

  pub each_so : (xs : List A) → ((x : A) → P x → Q x) → Each P xs → Each Q xs
  each_so [] so each = tt
  each_so (x ∷ xs) so each = (so x each.0, each_so xs so each.1)

-- names

pub itself : (s : ℕ) → (s == s) ≡ true
itself s = grind (arith, nat_tests)

pub equals : (m n : ℕ) → (m == n) ≡ true → m ≡ n
equals m n is = grind (arith, nat_tests, is)

pub same_self : (a : Name) → is_same a a ≡ true
same_self (Name.Seat s) = itself s
same_self (Name.Place k) = itself k

pub same_name : (a b : Name) → is_same a b ≡ true → a ≡ b
same_name (Name.Seat s) (Name.Seat t) is = ap Name.Seat (equals s t is)
same_name (Name.Seat s) (Name.Place k) is = absurd (cc is)
same_name (Name.Place k) (Name.Seat s) is = absurd (cc is)
same_name (Name.Place k) (Name.Place l) is = ap Name.Place (equals k l is)

-- parts of a log

kept_append : (b : Bool) (d : Done) (rest more whole : List Done) → whole ≡ rest ++ more → kept_if b d whole ≡ kept_if b d rest ++ more
kept_append true d rest more whole is = ap (λ l. d ∷ l) is
kept_append false d rest more whole is = is

pub part_snoc : (name : Name) (log : List Done) (e : Done) → part_of name (log ++ e ∷ []) ≡ part_of name log ++ part_of name (e ∷ [])
part_snoc name [] e = refl
part_snoc name (d ∷ log) e =
    kept_append (belongs name d.deed) d (part_of name log) (part_of name (e ∷ [])) (part_of name (log ++ e ∷ [])) (part_snoc name log e)

not_true : (b : Bool) → (b ≡ true → ⊥) → b ≡ false
not_true true never = absurd (never refl)
not_true false never = refl

pub part_other : (name : Name) (log : List Done) (e : Done) → (belongs name e.deed ≡ true → ⊥)
    → part_of name (log ++ e ∷ []) ≡ part_of name log
part_other name log e never =
    part_snoc name log e
    ∙ ap (λ b. part_of name log ++ kept_if b e []) (not_true (belongs name e.deed) never)
    ∙ append-nil (part_of name log)

pub length_kept : (b : Bool) (d : Done) (rest : List Done) → length (kept_if b d rest) ≡ cond {A = ℕ} b 1 0 + length rest
length_kept true d rest = omega arith
length_kept false d rest = omega arith

-- tickets

pub numbered_snoc : (first : ℕ) (log : List Done) (e : Done) → AreNumbered first log → e.ticket ≡ first + length log
    → AreNumbered first (log ++ e ∷ [])
numbered_snoc first [] e numbered is = (omega (arith, is), tt)
numbered_snoc first (d ∷ log) e numbered is = (numbered.0, numbered_snoc (suc first) log e numbered.1 (omega (arith, is)))

each_kept : (P : Done → Type 0) (b : Bool) (d : Done) (rest : List Done) → P d → Each P rest → Each P (kept_if b d rest)
each_kept P true d rest here each = (here, each)
each_kept P false d rest here each = each

pub earlier_part : (name : Name) (first next : ℕ) (log : List Done) → AreNumbered first log → first + length log ≤ next
    → Each (λ d. d.ticket < next) (part_of name log)
earlier_part name first next [] numbered le = tt
earlier_part name first next (d ∷ log) numbered le =
    each_kept (λ e. e.ticket < next) (belongs name d.deed) d (part_of name log) (omega (arith, numbered.0, le))
    (earlier_part name (suc first) next log numbered.1 (omega (arith, le)))

-- no log is longer than its seats may draw

abbrev seats_below : ℕ → List Done → ℕ
seats_below k [] = 0
seats_below k (d ∷ log) = cond {A = ℕ} (nat_lt d.deed.seat k) 1 0 + seats_below k log

one_seat : (s k : ℕ) → cond {A = ℕ} (nat_lt s (suc k)) 1 0 ≡ cond {A = ℕ} (nat_lt s k) 1 0 + cond {A = ℕ} (s == k) 1 0
one_seat s k = grind (arith, nat_tests)

next_seats : (k : ℕ) (log : List Done) → seats_below (suc k) log ≡ seats_below k log + length (part_of (Name.Seat k) log)
next_seats k [] = refl
next_seats k (d ∷ log) =
    omega (arith, next_seats k log, length_kept (d.deed.seat == k) d (part_of (Name.Seat k) log), one_seat d.deed.seat k)

no_seats : (log : List Done) → seats_below 0 log ≡ 0
no_seats [] = refl
no_seats (d ∷ log) = grind (arith, nat_tests, no_seats log)

module _ (log : List Done) (few : (s : ℕ) → length (part_of (Name.Seat s) log) ≤ TICKET_LIMIT) where
  few_below : (k : ℕ) → seats_below k log ≤ k * TICKET_LIMIT
  few_below zero = omega (arith, no_seats log)
  few_below (suc k) = omega (arith, few_below k, next_seats k log, few k)

counts_one : (s k : ℕ) → s < k → cond {A = ℕ} (nat_lt s k) 1 0 ≡ 1
counts_one s k lt = grind (arith, nat_tests, lt)

all_seats : (terms : Terms) (log : List Done) → Each (IsInside terms) log → terms.seats ≤ SEAT_LIMIT
    → seats_below SEAT_LIMIT log ≡ length log
all_seats terms [] inside le = refl
all_seats terms (d ∷ log) inside le =
    let below : d.deed.seat < terms.seats = inside.0 (Name.Seat d.deed.seat) (itself d.deed.seat) in
    omega (arith, counts_one d.deed.seat SEAT_LIMIT (omega (arith, below, le)), all_seats terms log inside.1 le)

pub bounded : (terms : Terms) (log : List Done) → Each (IsInside terms) log → terms.seats ≤ SEAT_LIMIT
    → ((s : ℕ) → length (part_of (Name.Seat s) log) ≤ TICKET_LIMIT) → length log ≤ SEAT_LIMIT * TICKET_LIMIT
bounded terms log inside le few = omega (arith, all_seats terms log inside le, few_below log few SEAT_LIMIT)
