-- What holds of the parts of a log holds of all of it, where whatever was done belongs to one of them.
use Rattle.c104_tickets.specs.{Tickets.{Each, IsInside, belongs, kept_if, part_of, stands_at}, declared.views.{Done.Done, Name.Name}}
use Rattle.{c104_tickets.specs.declared.views.Terms.Terms, c104_turns.{proofs.SeatParts.itself, specs.Calls.IsOwn}, std.proofs.Common.Bool}
use Rattle.std.proofs.Common.{List, None, Option, Some, [], ap, cond, false, is_some, refl, sym, true, ℕ, ◌<◌, ◌∙◌, ◌∷◌, ◌≡◌}

-- what holds of the part of a name holds of all that belongs to it
pub part_holds : (P : Done → Type 0) (name : Name) (log : List Done) → Each P (part_of name log)
    → Each (λ (d : Done). belongs name d.deed ≡ true → P d) log
part_holds P name [] each = tt
part_holds P name (d ∷ log) each = by_name (belongs name d.deed) refl each (part_holds P name log)
  where
    by_name : (b : Bool) → belongs name d.deed ≡ b → Each P (kept_if b d (part_of name log))
        → (Each P (part_of name log) → Each (λ (e : Done). belongs name e.deed ≡ true → P e) log)
        → (belongs name d.deed ≡ true → P d) × Each (λ (e : Done). belongs name e.deed ≡ true → P e) log
    by_name true is each rest = ((λ own. each.0), rest each.1)
    by_name false is each rest = ((λ own. (let no : false ≡ true = sym is ∙ own in absurd (cc no))), rest each)

-- what was done belongs to one of the first `count` names
pub record HasName (names : ℕ → Name) (count : ℕ) (d : Done) : Type 0 where
  pub number : ℕ
  pub below : number < count
  pub has : belongs (names number) d.deed ≡ true

pub all_parts : (P : Done → Type 0) (names : ℕ → Name) (count : ℕ) (log : List Done) → Each (HasName names count) log
    → ((k : ℕ) → k < count → Each (λ (d : Done). belongs (names k) d.deed ≡ true → P d) log) → Each P log
all_parts P names count [] has parts = tt
all_parts P names count (d ∷ log) has parts =
    ((parts has.0.number has.0.below).0 has.0.has, all_parts P names count log has.1 (λ k below. (parts k below).1))

-- to its seat
pub have_seats : (terms : Terms) (log : List Done) → Each (IsInside terms) log → Each (HasName Name.Seat terms.seats) log
have_seats terms [] inside = tt
have_seats terms (d ∷ log) inside = (
  record { number = d.deed.seat; below = inside.0 (Name.Seat d.deed.seat) (itself d.deed.seat); has = itself d.deed.seat },
  have_seats terms log inside.1,
)

-- and to the place of the node that leads, where it was done on the network's own nodes

near_belongs : (d : Done) (k : ℕ) → d.deed.near ≡ Some k → belongs (Name.Place k) d.deed ≡ true
near_belongs d k near =
    ap (λ o. cond {A = Bool} (stands_at k o) true (stands_at k d.deed.far)) near
    ∙ ap (λ b. cond {A = Bool} b true (stands_at k d.deed.far)) (itself k)

has_place : (terms : Terms) (d : Done) → IsOwn d → IsInside terms d → HasName Name.Place terms.places d
has_place terms d own inside = by_near d.deed.near refl own
  where
    by_near : (o : Option ℕ) → d.deed.near ≡ o → is_some o ≡ true → HasName Name.Place terms.places d
    by_near None near some = absurd (cc some)
    by_near (Some k) near some =
        let has : belongs (Name.Place k) d.deed ≡ true = near_belongs d k near in
        record { number = k; below = inside (Name.Place k) has; has = has }

pub have_places : (terms : Terms) (log : List Done) → Each IsOwn log → Each (IsInside terms) log
    → Each (HasName Name.Place terms.places) log
have_places terms [] own inside = tt
have_places terms (d ∷ log) own inside = (has_place terms d own.0 inside.0, have_places terms log own.1 inside.1)
