-- For who closes a word or a log: what is known of some of the tracks, of the seats that have them, and of the tickets of these
-- seats.
use Rattle.c104_tickets.proofs.{Logs.{itself, length_kept}, SeatTickets.{AreDistinct, done_in, seat_tickets, tickets_in}}
use Rattle.c104_tickets.specs.{Counts.{AreNoneTwice, AreOnce, count_of, one_within}, Tickets.{AreApart, AreNumbered, Each, IsClosed}}
use Rattle.c104_tickets.specs.{Tickets.{IsInside, IsNameOf, kept_if, part_of}, declared.views.{Done.Done, Name.Name, Terms.Terms}}
use Rattle.{c104_tickets.specs.declared.views.Track.Track, std.proofs.Common.{Bool, List, [], ap, arith, cond, false, get_or, length, map}}
use Rattle.std.proofs.Common.{refl, subst, suc, sym, true, zero, ℕ, ◌++◌, ◌+◌, ◌-◌, ◌<◌, ◌∙◌, ◌∷◌, ◌≡◌, ◌≢◌, ◌≤◌}
use Rattle.std.proofs.lemmas.{Bool.Decides.nat_tests, List.{Sums.{get_or-le-sum_by, sum_by-append, sum_by-cons}, length-append, length-map}}
use Rattle.std.specs.Prelude.{Contains, nat_lt, ◌==◌}

-- some of the tracks

pub each_left : {A : Type 0} (P : A → Type 0) (xs ys : List A) → Each P (xs ++ ys) → Each P xs
each_left P [] ys each = tt
each_left P (x ∷ xs) ys each = (each.0, each_left P xs ys each.1)

pub each_right : {A : Type 0} (P : A → Type 0) (xs ys : List A) → Each P (xs ++ ys) → Each P ys
each_right P [] ys each = each
each_right P (x ∷ xs) ys each = each_right P xs ys each.1

pub apart_left : (xs ys : List Track) → AreApart (xs ++ ys) → AreApart xs
apart_left [] ys apart = tt
apart_left (x ∷ xs) ys apart = (each_left (λ y. y.name ≢ x.name) xs ys apart.0, apart_left xs ys apart.1)

pub apart_right : (xs ys : List Track) → AreApart (xs ++ ys) → AreApart ys
apart_right [] ys apart = apart
apart_right (x ∷ xs) ys apart = apart_right xs ys apart.1

-- tracks of seats: what holds of their names holds of the seats

head_seat : (t : Track) (ts : List Track) (s : ℕ) (ss : List ℕ) → map (λ u. u.name) (t ∷ ts) ≡ map Name.Seat (s ∷ ss)
    → t.name ≡ Name.Seat s
head_seat t ts s ss are = cc are

tail_seats : (t : Track) (ts : List Track) (s : ℕ) (ss : List ℕ) → map (λ u. u.name) (t ∷ ts) ≡ map Name.Seat (s ∷ ss)
    → map (λ u. u.name) ts ≡ map Name.Seat ss
tail_seats t ts s ss are = cc are

pub each_seat : (P : Name → Type 0) (tracks : List Track) (seats : List ℕ) → map (λ t. t.name) tracks ≡ map Name.Seat seats
    → Each (λ t. P t.name) tracks → Each (λ s. P (Name.Seat s)) seats
each_seat P tracks [] are each = tt
each_seat P [] (s ∷ ss) are each = absurd (cc are)
each_seat P (t ∷ ts) (s ∷ ss) are each =
    (subst P (head_seat t ts s ss are) each.0, each_seat P ts ss (tail_seats t ts s ss are) each.1)

each_differs : (s : ℕ) (ss : List ℕ) → Each (λ t. Name.Seat t ≢ Name.Seat s) ss → Each (λ t. t ≢ s) ss
each_differs s [] each = tt
each_differs s (t ∷ ss) each = ((λ is. each.0 (ap Name.Seat is)), each_differs s ss each.1)

pub distinct_seats : (tracks : List Track) (seats : List ℕ) → map (λ t. t.name) tracks ≡ map Name.Seat seats → AreApart tracks
    → AreDistinct seats
distinct_seats tracks [] are apart = tt
distinct_seats [] (s ∷ ss) are apart = absurd (cc are)
distinct_seats (t ∷ ts) (s ∷ ss) are apart =
    let others : Each (λ u. u.name ≢ Name.Seat s) ts = subst (λ name. Each (λ u. u.name ≢ name) ts) (head_seat t ts s ss are) apart.0 in
    let rest = tail_seats t ts s ss are in
    (each_differs s ss (each_seat (λ name. name ≢ Name.Seat s) ts ss rest others), distinct_seats ts ss rest apart.1)

-- how often a seat stands among some

count_cons : (x y : ℕ) (ys : List ℕ) → count_of x (y ∷ ys) ≡ cond {A = ℕ} (x == y) 1 0 + count_of x ys
count_cons x y ys = sum_by-cons (λ z. cond (x == z) 1 0) y ys

pub count_append : (x : ℕ) (xs ys : List ℕ) → count_of x (xs ++ ys) ≡ count_of x xs + count_of x ys
count_append x xs ys = sum_by-append (λ y. cond (x == y) 1 0) xs ys

none_of : (x : ℕ) (xs : List ℕ) → Each (λ y. y ≢ x) xs → count_of x xs ≡ 0
none_of x [] each = refl
none_of x (y ∷ ys) each = grind (arith, nat_tests, count_cons x y ys, none_of x ys each.1, each.0)

one_or_rest : (x y : ℕ) (ys : List ℕ) → count_of y ys ≡ 0 → count_of x ys ≤ 1 → count_of x (y ∷ ys) ≤ 1
one_or_rest x y ys none rest = by (x == y) refl where
  by : (b : Bool) → (x == y) ≡ b → count_of x (y ∷ ys) ≤ 1
  by true is =
      let same : x ≡ y = grind (arith, nat_tests, is) in
      omega (arith, count_cons x y ys, ap (λ b. cond {A = ℕ} b 1 0) is, ap (λ n. count_of n ys) same, none)
  by false is = omega (arith, count_cons x y ys, ap (λ b. cond {A = ℕ} b 1 0) is, rest)

pub at_most_once : (xs : List ℕ) → AreDistinct xs → (x : ℕ) → count_of x xs ≤ 1
at_most_once [] distinct x = omega arith
at_most_once (y ∷ ys) distinct x = one_or_rest x y ys (none_of y ys distinct.0) (at_most_once ys distinct.1 x)

pub stands : (xs : List ℕ) (x : ℕ) → Contains xs x → 1 ≤ count_of x xs
stands xs x has =
    let there : cond {A = ℕ} (x == get_or xs has.0 x) 1 0 ≤ count_of x xs = get_or-le-sum_by (λ y. cond (x == y) 1 0) xs has.0 x has.1 in
    omega (arith, there, ap (λ n. cond {A = ℕ} (x == n) 1 0) has.2, ap (λ b. cond {A = ℕ} b 1 0) (itself x))

-- as many different seats as there are are all of them

abbrev below : ℕ → List ℕ → ℕ
below k [] = 0
below k (x ∷ xs) = cond {A = ℕ} (nat_lt x k) 1 0 + below k xs

one_below : (x k : ℕ) → cond {A = ℕ} (nat_lt x (suc k)) 1 0 ≡ cond {A = ℕ} (nat_lt x k) 1 0 + cond {A = ℕ} (k == x) 1 0
one_below x k = grind (arith, nat_tests)

next_below : (k : ℕ) (xs : List ℕ) → below (suc k) xs ≡ below k xs + count_of k xs
next_below k [] = refl
next_below k (x ∷ xs) = omega (arith, next_below k xs, count_cons k x xs, one_below x k)

none_below : (xs : List ℕ) → below 0 xs ≡ 0
none_below [] = refl
none_below (x ∷ xs) = grind (arith, nat_tests, none_below xs)

all_below : (n : ℕ) (xs : List ℕ) → Each (λ x. x < n) xs → below n xs ≡ length xs
all_below n [] each = refl
all_below n (x ∷ xs) each = grind (arith, nat_tests, all_below n xs each.1, each.0)

module _ (xs : List ℕ) (once : (x : ℕ) → count_of x xs ≤ 1) where
  few_more : (k more : ℕ) → below (k + more) xs ≤ below k xs + more
  few_more k zero = omega (arith, ap (λ n. below n xs) (add_none k)) where
    add_none : (m : ℕ) → m + 0 ≡ m
    add_none m = omega arith
  few_more k (suc more) =
      omega (arith, few_more k more, next_below (k + more) xs, once (k + more), ap (λ n. below n xs) (add_one k more)) where
        add_one : (m n : ℕ) → m + suc n ≡ suc (m + n)
        add_one m n = omega arith

  few_below : (k : ℕ) → below k xs ≤ k
  few_below zero = omega (arith, none_below xs)
  few_below (suc k) = omega (arith, few_below k, next_below k xs, once k)

  stand_below : (n : ℕ) → below n xs ≡ n → (x : ℕ) → x < n → 1 ≤ count_of x xs
  stand_below n full x lt =
      let rest : suc x + (n - suc x) ≡ n = omega (arith, lt) in
      omega (arith, few_below x, next_below x xs, few_more (suc x) (n - suc x), ap (λ m. below m xs) rest, full, rest)

pub few_stand : (n : ℕ) (xs : List ℕ) → AreDistinct xs → Each (λ x. x < n) xs → length xs ≤ n
few_stand n xs distinct each = omega (arith, all_below n xs each, few_below xs (at_most_once xs distinct) n)

pub all_stand : (n : ℕ) (xs : List ℕ) → AreDistinct xs → Each (λ x. x < n) xs → length xs ≡ n → (x : ℕ) → x < n → 1 ≤ count_of x xs
all_stand n xs distinct each full = stand_below xs (at_most_once xs distinct) n (all_below n xs each ∙ full)

-- tickets of seats

kept_count : (x : ℕ) (b : Bool) (d : Done) (rest : List Done)
    → count_of x (tickets_in (kept_if b d rest)) ≡ cond {A = ℕ} b (cond {A = ℕ} (x == d.ticket) 1 0) 0 + count_of x (tickets_in rest)
kept_count x true d rest = count_cons x d.ticket (tickets_in rest)
kept_count x false d rest = omega arith

choose : (a b : Bool) (n : ℕ) → cond {A = ℕ} a (cond {A = ℕ} b 1 0 + n) 0 ≡ cond {A = ℕ} b (cond {A = ℕ} a 1 0) 0 + cond {A = ℕ} a n 0
choose true true n = omega arith
choose true false n = omega arith
choose false true n = omega arith
choose false false n = omega arith

choose_none : (a : Bool) → cond {A = ℕ} a 0 0 ≡ 0
choose_none true = refl
choose_none false = refl

step_within : (first n total x : ℕ) → total ≡ first + n + 1
    → one_within first total x ≡ cond {A = ℕ} (x == first) 1 0 + one_within (suc first) (suc first + n) x
step_within first n total x is = grind (arith, nat_tests, is)

none_within : (first x : ℕ) → one_within first (first + 0) x ≡ 0
none_within first x = grind (arith, nat_tests)

no_log : (x : ℕ) (seats : List ℕ) → count_of x (seat_tickets seats []) ≡ 0
no_log x [] = refl
no_log x (s ∷ seats) = no_log x seats

-- a deed adds its ticket as often as its seat stands among these
one_more : (x : ℕ) (d : Done) (log : List Done) (seats : List ℕ) → count_of x (seat_tickets seats (d ∷ log))
    ≡ count_of x (seat_tickets seats log) + cond {A = ℕ} (x == d.ticket) (count_of d.deed.seat seats) 0
one_more x d log [] = omega (arith, choose_none (x == d.ticket))
one_more x d log (s ∷ seats) =
    let rest : List Done = part_of (Name.Seat s) log in
    omega (
      arith,
      count_append x (tickets_in (kept_if (d.deed.seat == s) d rest)) (seat_tickets seats (d ∷ log)),
      count_append x (tickets_in rest) (seat_tickets seats log),
      kept_count x (d.deed.seat == s) d rest,
      one_more x d log seats,
      choose (x == d.ticket) (d.deed.seat == s) (count_of d.deed.seat seats),
      ap (λ n. cond {A = ℕ} (x == d.ticket) n 0) (count_cons d.deed.seat s seats),
    )

choose_le : (a : Bool) (n : ℕ) → n ≤ 1 → cond {A = ℕ} a n 0 ≤ cond {A = ℕ} a 1 0
choose_le true n le = le
choose_le false n le = omega arith

module _ (seats : List ℕ) (once : (s : ℕ) → count_of s seats ≤ 1) where
  none_twice_in : (first : ℕ) (log : List Done) → AreNumbered first log → AreNoneTwice first (first + length log) (seat_tickets seats log)
  none_twice_in first [] numbered x = omega (arith, no_log x seats)
  none_twice_in first (d ∷ log) numbered x =
      omega (
        arith,
        one_more x d log seats,
        choose_le (x == d.ticket) (count_of d.deed.seat seats) (once d.deed.seat),
        ap (λ n. cond {A = ℕ} (x == n) 1 0) numbered.0,
        none_twice_in (suc first) log numbered.1 x,
        step_within first (length log) (first + length (d ∷ log)) x (omega arith),
      )

  module _ (terms : Terms) (all : (s : ℕ) → s < terms.seats → 1 ≤ count_of s seats) where
    once_in : (first : ℕ) (log : List Done) → AreNumbered first log → Each (IsInside terms) log
        → AreOnce first (first + length log) (seat_tickets seats log)
    once_in first [] numbered inside x = omega (arith, no_log x seats, none_within first x)
    once_in first (d ∷ log) numbered inside x =
        let within : d.deed.seat < terms.seats = inside.0 (Name.Seat d.deed.seat) (itself d.deed.seat) in
        let one : count_of d.deed.seat seats ≡ 1 = omega (arith, once d.deed.seat, all d.deed.seat within) in
        omega (
          arith,
          one_more x d log seats,
          ap (λ n. cond {A = ℕ} (x == d.ticket) n 0) one,
          ap (λ n. cond {A = ℕ} (x == n) 1 0) numbered.0,
          once_in (suc first) log numbered.1 inside.1 x,
          step_within first (length log) (first + length (d ∷ log)) x (omega arith),
        )

-- the tickets of different seats of a word that was ended: none twice, and each once if all seats are among these

module _ (terms : Terms) (next : ℕ) (tracks : List Track) (closed : IsClosed terms next tracks) where
  module _ (seats : List ℕ) (distinct : AreDistinct seats) where
    pub none_twice : AreNoneTwice terms.first next (seat_tickets seats closed.log)
    none_twice = subst (λ n. AreNoneTwice terms.first n (seat_tickets seats closed.log)) (sym closed.last)
        (none_twice_in seats (at_most_once seats distinct) terms.first closed.log closed.numbered)

    pub each_once : ((s : ℕ) → s < terms.seats → 1 ≤ count_of s seats) → AreOnce terms.first next (seat_tickets seats closed.log)
    each_once all = subst (λ n. AreOnce terms.first n (seat_tickets seats closed.log)) (sym closed.last)
        (once_in seats (at_most_once seats distinct) terms all terms.first closed.log closed.numbered closed.inside)

-- the tracks of all seats have as much as the log

no_more : (seats : List ℕ) → length (seat_tickets seats []) ≡ 0
no_more [] = refl
no_more (s ∷ seats) = no_more seats

longer : (d : Done) (log : List Done) (seats : List ℕ)
    → length (seat_tickets seats (d ∷ log)) ≡ length (seat_tickets seats log) + count_of d.deed.seat seats
longer d log [] = refl
longer d log (s ∷ seats) =
    let rest : List Done = part_of (Name.Seat s) log in
    let kept : List Done = kept_if (d.deed.seat == s) d rest in
    omega (
      arith,
      length-append (tickets_in kept) (seat_tickets seats (d ∷ log)),
      length-append (tickets_in rest) (seat_tickets seats log),
      length-map kept (λ (e : Done). e.ticket),
      length-map rest (λ (e : Done). e.ticket),
      length_kept (d.deed.seat == s) d rest,
      longer d log seats,
      count_cons d.deed.seat s seats,
    )

module _ (terms : Terms) (seats : List ℕ) (once : (s : ℕ) → count_of s seats ≤ 1) (all : (s : ℕ) → s < terms.seats → 1 ≤ count_of s seats) where
  as_long : (log : List Done) → Each (IsInside terms) log → length (seat_tickets seats log) ≡ length log
  as_long [] inside = no_more seats
  as_long (d ∷ log) inside =
      let within : d.deed.seat < terms.seats = inside.0 (Name.Seat d.deed.seat) (itself d.deed.seat) in
      omega (arith, longer d log seats, as_long log inside.1, once d.deed.seat, all d.deed.seat within)

in_tracks : (log : List Done) (tracks : List Track) (seats : List ℕ) → map (λ t. t.name) tracks ≡ map Name.Seat seats
    → Each (λ t. t.done ≡ part_of t.name log) tracks → done_in tracks ≡ length (seat_tickets seats log)
in_tracks log [] [] are parts = refl
in_tracks log [] (s ∷ seats) are parts = absurd (cc are)
in_tracks log (t ∷ tracks) [] are parts = absurd (cc are)
in_tracks log (t ∷ tracks) (s ∷ seats) are parts =
    let own : t.done ≡ part_of (Name.Seat s) log = parts.0 ∙ ap (λ name. part_of name log) (head_seat t tracks s seats are) in
    omega (
      arith,
      ap (λ (done : List Done). length done) own,
      in_tracks log tracks seats (tail_seats t tracks s seats are) parts.1,
      length-append (tickets_in (part_of (Name.Seat s) log)) (seat_tickets seats log),
      length-map (part_of (Name.Seat s) log) (λ (e : Done). e.ticket),
    )

-- so where those of all seats are among the tracks, the next ticket is as far from the first
pub all_counted : (terms : Terms) (next : ℕ) (tracks others : List Track) (seats : List ℕ) → IsClosed terms next (tracks ++ others)
    → map (λ t. t.name) tracks ≡ map Name.Seat seats → length seats ≡ terms.seats → next ≡ terms.first + done_in tracks
all_counted terms next tracks others seats closed are full =
    let distinct : AreDistinct seats = distinct_seats tracks seats are (apart_left tracks others closed.apart) in
    let named : Each (λ s. s < terms.seats) seats =
    each_seat (IsNameOf terms) tracks seats are (each_left (λ t. IsNameOf terms t.name) tracks others closed.named) in
    omega (
      arith,
      closed.last,
      as_long terms seats (at_most_once seats distinct) (all_stand terms.seats seats distinct named full) closed.log closed.inside,
      in_tracks closed.log tracks seats are (each_left (λ t. t.done ≡ part_of t.name closed.log) tracks others closed.parts),
    )
