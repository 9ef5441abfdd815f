-- Where each node does its own part of a log, the nodes of the first of it have done that, and each does its part of the rest.
use Rattle.{c104_lean.specs.OwnRuns.{DoesOwn, OwnRun}, c104_node.proofs.WireEnds.{get_set_other, get_set_same}}
use Rattle.{c104_node.specs.TracedRecords.TracedRecord, c104_plan.specs.Plans.Plan, c104_tickets.specs.Tickets.{kept_if, part_of}}
use Rattle.{c104_tickets.specs.{Tickets.stands_at, declared.views.{Done.Done, Name.Name}}, std.proofs.Common.{List, None, Some, ap, arith}}
use Rattle.std.proofs.Common.{false, inl, inr, refl, slice_get, slice_set, subst, sym, true, ℕ, ◌∙◌, ◌∷◌, ◌≡◌, ◌≢◌}
use Rattle.std.proofs.lemmas.Bool.{Decides.nat_tests, cases_eq}

-- each node does what is left of its part, from these nodes to others
abbrev pub RunTheirs : Plan → List TracedRecord → List TracedRecord → (ℕ → List Done) → Type 0
RunTheirs plan from to parts = (k : ℕ) (n m : TracedRecord) → slice_get from k ≡ Some n → slice_get to k ≡ Some m
    → OwnRun plan k n (parts k) m

-- the parts of a log
abbrev pub parts : List Done → ℕ → List Done
parts log k = part_of (Name.Place k) log

-- and where its first was done by the node that leads alone
abbrev pub parts_of_far : Done → List Done → ℕ → List Done
parts_of_far d rest k = kept_if (stands_at k d.deed.far) d (parts rest k)

-- a change at one place leaves the others as they are
pub still_there : (xs : List TracedRecord) (k j : ℕ) (y x : TracedRecord) → k ≢ j → slice_get xs j ≡ Some x
    → slice_get (slice_set xs k y) j ≡ Some x
still_there xs k j y x differs there = get_set_other xs k j y differs ∙ there

-- the node at a place did the first of its part, and each does what is left then
pub record DoesFirst (plan : Plan) (from to : List TracedRecord) (k : ℕ) (d : Done) (n : TracedRecord) (left : ℕ → List Done) : Type 0 where
  pub mid : TracedRecord
  pub does : DoesOwn plan k d n mid
  pub rest : RunTheirs plan (slice_set from k mid) to left

pub does_first : (plan : Plan) (from to : List TracedRecord) (k : ℕ) (d : Done) (n m : TracedRecord) (whole left : ℕ → List Done)
    → slice_get from k ≡ Some n → slice_get to k ≡ Some m → whole k ≡ d ∷ left k → ((j : ℕ) → k ≢ j → whole j ≡ left j)
    → RunTheirs plan from to whole → DoesFirst plan from to k d n left
does_first plan from to k d n m whole left at at_end first same runs = record { mid = run.0; does = run.1; rest = rest }
  where
    run : OwnRun plan k n (d ∷ left k) m
    run = subst (λ ds. OwnRun plan k n ds m) first (runs k n m at at_end)

    mid : TracedRecord
    mid = run.0

    at_first : (j : ℕ) (o p : TracedRecord) → slice_get (slice_set from k mid) j ≡ Some o → slice_get to j ≡ Some p → k ≡ j
        → OwnRun plan j o (left j) p
    at_first j o p here there equal =
        let changed : Some mid ≡ Some o = sym (get_set_same from k n mid at) ∙ ap (slice_get (slice_set from k mid)) equal ∙ here in
        let kept : Some m ≡ Some p = sym at_end ∙ ap (slice_get to) equal ∙ there in
        let new : mid ≡ o = cc in
        let end : m ≡ p = cc in
        subst (λ i. OwnRun plan i o (left i) p) equal
        (subst (λ q. OwnRun plan k o (left k) q) end (subst (λ q. OwnRun plan k q (left k) m) new run.2))

    rest : RunTheirs plan (slice_set from k mid) to left
    rest j o p here there = elim (cases_eq k j) [
      | inl equal ↦ at_first j o p here there equal
      | inr differs ↦ subst (λ ds. OwnRun plan j o ds p) (same j differs)
          (runs j o p (sym (get_set_other from k j mid differs) ∙ here) there)
    ]

stands_there : (k : ℕ) → stands_at k (Some k) ≡ true
stands_there k = grind (arith, nat_tests)

stands_elsewhere : (k j : ℕ) → k ≢ j → stands_at j (Some k) ≡ false
stands_elsewhere k j differs = grind (arith, nat_tests, differs)

-- the parts of a log with a first, whose nodes stand at these places
module _ (d : Done) (rest : List Done) (k : ℕ) where
  pub near_first : d.deed.near ≡ Some k → stands_at k d.deed.far ≡ false → parts (d ∷ rest) k ≡ d ∷ parts_of_far d rest k
  near_first near away = rw (near, stands_there k, away) refl

  pub near_others : d.deed.near ≡ Some k → (j : ℕ) → k ≢ j → parts (d ∷ rest) j ≡ parts_of_far d rest j
  near_others near j differs = rw (near, stands_elsewhere k j differs) refl

  pub far_first : d.deed.far ≡ Some k → parts_of_far d rest k ≡ d ∷ parts rest k
  far_first far = rw (far, stands_there k) refl

  pub far_others : d.deed.far ≡ Some k → (j : ℕ) → k ≢ j → parts_of_far d rest j ≡ parts rest j
  far_others far j differs = rw (far, stands_elsewhere k j differs) refl

  -- the other stands elsewhere
  pub far_away : (j : ℕ) → d.deed.far ≡ Some j → k ≢ j → stands_at k d.deed.far ≡ false
  far_away j far differs = ap (stands_at k) far ∙ stands_elsewhere j k (λ same. differs (sym same))

  -- or there is no other
  pub lone_first : d.deed.near ≡ Some k → d.deed.far ≡ None → parts (d ∷ rest) k ≡ d ∷ parts rest k
  lone_first near none = rw (near, none, stands_there k) refl

  pub lone_others : d.deed.near ≡ Some k → d.deed.far ≡ None → (j : ℕ) → k ≢ j → parts (d ∷ rest) j ≡ parts rest j
  lone_others near none j differs = rw (near, none, stands_elsewhere k j differs) refl
