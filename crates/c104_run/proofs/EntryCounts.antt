-- The entries of one event: there is a trace for each, which has room for it.
use Rattle.c104_node.{proofs.WireEnds.get_set_other, specs.Traces.{Deed, full_at, is_trace_full, noted_all, noted_at, trace_limit}}
use Rattle.{c104_node.specs.declared.acts.Entry.Entry, c104_run.specs.NetRecords.{IsWithinLimit, total_entries}, std.proofs.Common.All}
use Rattle.std.proofs.Common.{List, Some, [], ap, arith, false, get_or, length, length-append, map, nat_le, refl, slice_get, slice_set, suc}
use Rattle.std.proofs.{Common.{sym, true, zero, ℕ, ◌*◌, ◌++◌, ◌+◌, ◌<◌, ◌∙◌, ◌∷◌, ◌≡◌, ◌≢◌, ◌≤◌}, lemmas.Bool.Decides.nat_tests}
use Rattle.std.proofs.lemmas.{List.Elements.{All-head, All-set, All-tail}, Option.{slice_get-get_or, slice_get-map, slice_get_within}}
use Rattle.std.specs.Option.{option_map}

-- there is a trace at a place, and it has room for an entry
abbrev pub HasRoom : List (List Entry) → ℕ → Type 0
HasRoom traces k = (trace : List Entry) × (slice_get traces k ≡ Some trace) × (length trace < trace_limit)

-- the entries of an event, each with room for it: one entry, or one at each of two nodes
abbrev pub HaveRoom : List (List Entry) → List Deed → Type 0
HaveRoom traces (d ∷ []) = HasRoom traces d.0
HaveRoom traces (d ∷ e ∷ []) = HasRoom traces d.0 × HasRoom traces e.0 × (d.0 ≢ e.0)
HaveRoom traces deeds = ⊥

-- lists that have elements at the same places are equally long
pub lengths_same : {X Y : Type 0} (xs : List X) (ys : List Y) (f : ℕ → Y → X) → ((k : ℕ) → slice_get xs k ≡ option_map (f k) (slice_get ys k)) → length xs ≡ length ys
lengths_same [] [] f same = refl
lengths_same (x ∷ xs) (y ∷ ys) f same = ap suc (lengths_same xs ys (λ k. f (suc k)) (λ k. same (suc k)))
lengths_same xs ys f same = let first = same 0 in cc

-- a trace that isn't full, at the place of a node
pub room_there : {X : Type 0} (nodes : List X) (traces : List (List Entry)) (k : ℕ) (n : X) → length traces ≡ length nodes → slice_get nodes k ≡ Some n → full_at (map is_trace_full traces) k ≡ false → HasRoom traces k
room_there nodes traces k n same there free =
    let inside : k < length nodes = slice_get_within nodes k n there in
    let here : slice_get traces k ≡ Some (get_or traces k []) = slice_get-get_or traces k [] (omega (arith, inside, same)) in
    let shown : full_at (map is_trace_full traces) k ≡ nat_le trace_limit (length (get_or traces k [])) = rw (slice_get-map is_trace_full traces k, here) refl in
    (get_or traces k [], here, below (length (get_or traces k [])) (sym shown ∙ free))
  where
    below : (n : ℕ) → nat_le trace_limit n ≡ false → n < trace_limit
    below n is = grind (arith, nat_tests)

total_set : (traces : List (List Entry)) (k : ℕ) (trace : List Entry) (e : Entry) → slice_get traces k ≡ Some trace → total_entries (slice_set traces k (trace ++ e ∷ [])) ≡ suc (total_entries traces)
total_set [] k trace e there = cc
total_set (t ∷ traces) zero trace e there = search (arith, length-append)
total_set (t ∷ traces) (suc k) trace e there = let rest = total_set traces k trace e there in omega (arith, rest)

-- an entry that joins a trace with room is one more, and the traces stay within their limit
module _ (traces : List (List Entry)) (k : ℕ) (e : Entry) (room : HasRoom traces k) where
  noted_more : total_entries (noted_at true traces k e) ≡ suc (total_entries traces)
  noted_more = rw room.1 (total_set traces k room.0 e room.1)

  noted_within : All IsWithinLimit traces → All IsWithinLimit (noted_at true traces k e)
  noted_within all =
      let one : length (room.0 ++ e ∷ []) ≡ length room.0 + 1 = length-append room.0 (e ∷ []) in
      let less : length room.0 < trace_limit = room.2 in
      rw room.1 (All-set IsWithinLimit traces k (room.0 ++ e ∷ []) (omega (arith, one, less)) all)

  room_elsewhere : (j : ℕ) → HasRoom traces j → k ≢ j → HasRoom (noted_at true traces k e) j
  room_elsewhere j there differ = (there.0, rw room.1 (get_set_other traces k j (room.0 ++ e ∷ []) differ ∙ there.1), there.2)

-- the same of the entries of one event
pub all_more : (traces : List (List Entry)) (deeds : List Deed) → HaveRoom traces deeds → total_entries traces + 1 ≤ total_entries (noted_all true traces deeds)
all_more traces deeds room = search (arith, noted_more, room_elsewhere)

pub all_within : (traces : List (List Entry)) (deeds : List Deed) → HaveRoom traces deeds → All IsWithinLimit traces → All IsWithinLimit (noted_all true traces deeds)
all_within traces deeds room all = search (arith, noted_within, room_elsewhere)

-- how many entries there can be
pub total_below : (traces : List (List Entry)) → All IsWithinLimit traces → total_entries traces ≤ length traces * trace_limit
total_below [] all = omega arith
total_below (t ∷ traces) all =
    let rest = total_below traces (All-tail IsWithinLimit t traces all) in
    let first : length t ≤ trace_limit = All-head IsWithinLimit t traces all in
    omega (arith, rest, first)
