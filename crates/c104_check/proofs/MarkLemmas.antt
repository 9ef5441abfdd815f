-- Headers that are marked.
use Rattle.c104_check.proofs.{BreakLemmas.change_starts, LinkLemmas.{at_place, input_at, place_at}, RouteLemmas.is_input}
use Rattle.c104_check.specs.Breaks.{AddsMarks, AreBreaks, BoundsLabels, BoundsRandomAt, BoundsRange, BreaksAt, ChangesSelect}
use Rattle.c104_check.specs.{Breaks.{ChangesSelectAt, IsWired, is_marked}, Routes.{Routes, SwitchPort, header_count, link_settings, place}}
use Rattle.{c104_check.specs.{Routes.{port_at, to_port}, Trails.{IsInput, IsNetwork}}, c104_interval.specs.Segments.AreSegmentsBelow}
use Rattle.{c104_interval.specs.declared.intervals.Table.Table, c104_plan.specs.declared.ports.Port.Port}
use Rattle.{c104_regs.specs.declared.settings.Settings.Settings, std.proofs.Common.{Bool, List, None, Option, Some, [], ap, arith, drop}}
use Rattle.std.proofs.Common.{false, inl, inr, is_some, length, refl, slice_get, slice_index_or, subst, suc, sym, take, true, ℕ, ◌*◌, ◌++◌}
use Rattle.std.proofs.{Common.{◌+◌, ◌<◌, ◌↔◌, ◌∙◌, ◌∷◌, ◌≡◌, ◌≤◌, ◌⊎◌}, lemmas.{Bool.cases_eq, List.{append-nil, drop_all, take_all}}}
use Rattle.std.{proofs.lemmas.{List.take_more, Option.{same_Some, slice_get-get_or, slice_get_within}}, specs.List.Contains}

-- none is marked beside those that were
pub marks_none : (old : List Bool) (X : ℕ → Type 0) → ((h : ℕ) → X h → ⊥) → AddsMarks old old X
marks_none old X none = (refl, λ h below. ((λ was. inl was), (λ may. elim may [ inl was ↦ was | inr is ↦ absurd (none h is) ])))

-- first some are, and then others
pub marks_both : (a b c : List Bool) (X Y Z : ℕ → Type 0) → AddsMarks a b X → AddsMarks b c Y → ((h : ℕ) → h < length a → Z h ↔ (X h ⊎ Y h)) → AddsMarks a c Z
marks_both a b c X Y Z first second are = search arith

pub marks_same : (a b : List Bool) (X Z : ℕ → Type 0) → AddsMarks a b X → ((h : ℕ) → h < length a → Z h ↔ X h) → AddsMarks a b Z
marks_same a b X Z adds are = search arith

-- Some headers, one after another

Contains-next : (x : ℕ) (xs : List ℕ) (y : ℕ) → Contains xs y → Contains (x ∷ xs) y
Contains-next x xs y here = let below = here.1 in (suc here.0, omega (arith, below), here.2)

Contains-first : (x : ℕ) (xs : List ℕ) (y : ℕ) → Contains (x ∷ xs) y → (y ≡ x) ⊎ Contains xs y
Contains-first x xs y has = search arith

Contains-none : (h : ℕ) → Contains [] h → ⊥
Contains-none h here = absurd (omega (arith, here.1))

Contains-more : (x : ℕ) (xs : List ℕ) (h : ℕ) → Contains (xs ++ x ∷ []) h ↔ (Contains xs h ⊎ (h ≡ x))
Contains-more x [] h = search (arith, Contains-first, Contains-none)
Contains-more x (y ∷ xs) h = search (arith, Contains-first, Contains-next, Contains-more x xs h)

-- those of some headers for which a table selects otherwise than for the one before
abbrev pub ChangeAmong : Table → List ℕ → ℕ → Type 0
ChangeAmong t xs h = ChangesSelect t h × Contains xs h

change_more : (t : Table) (x : ℕ) (xs : List ℕ) (h : ℕ) → ChangeAmong t (xs ++ x ∷ []) h ↔ (ChangeAmong t xs h ⊎ (ChangesSelect t h × (h ≡ x)))
change_more t x xs h =
    let more = Contains-more x xs h in (
      (λ is. elim (more.0 is.1) [ inl there ↦ inl (is.0, there) | inr same ↦ inr (is.0, same) ]),
      (λ may. elim may [ inl was ↦ (was.0, more.1 (inl was.1)) | inr one ↦ (one.0, more.1 (inr one.1)) ]),
    )

pub changes_next : (t : Table) (a b c : List Bool) (xs : List ℕ) (i : ℕ) (d x : ℕ) → i < length xs → x ≡ slice_index_or xs i d → AddsMarks a b (ChangeAmong t (take i xs)) → AddsMarks b c (λ h. ChangesSelect t h × (h ≡ x)) → AddsMarks a c (ChangeAmong t (take (i + 1) xs))
changes_next t a b c xs i d x inside is before one =
    let more = take_more xs i d inside in
    let y : ℕ = slice_index_or xs i d in
    subst (λ (ys : List ℕ). AddsMarks a c (ChangeAmong t ys)) (sym more)
    (marks_both a b c (ChangeAmong t (take i xs)) (λ h. ChangesSelect t h × (h ≡ y)) (ChangeAmong t (take i xs ++ y ∷ [])) before (subst (λ (z : ℕ). AddsMarks b c (λ h. ChangesSelect t h × (h ≡ z))) is one) (λ h below. change_more t y (take i xs) h))

pub changes_all : (t : Table) (a b : List Bool) (xs : List ℕ) (i : ℕ) → length xs ≤ i → AddsMarks a b (ChangeAmong t (take i xs)) → AddsMarks a b (ChangeAmong t xs)
changes_all t a b xs i past are = subst (λ (ys : List ℕ). AddsMarks a b (ChangeAmong t ys)) (take_all i xs past) are

-- Range by range

Some-settings : (x y : Settings) → Some x ≡ Some y → x ≡ y
Some-settings x y is = cc

-- a bound of the range of one of the first terminals
abbrev pub BoundBefore : Routes → ℕ → ℕ → Type 0
BoundBefore routes n h =
    (t : ℕ) × (range : ℕ × ℕ) × (t < n) × (slice_get routes.ranges t ≡ Some range) × BoundsRange range h

pub bound_next : (routes : Routes) (a b c : List Bool) (xs : List (ℕ × ℕ)) (n : ℕ) (d range : ℕ × ℕ) → xs ≡ routes.ranges → n < length xs → range ≡ slice_index_or xs n d → AddsMarks a b (BoundBefore routes n) → AddsMarks b c (BoundsRange range) → AddsMarks a c (BoundBefore routes (n + 1))
bound_next routes a b c xs n d range are inside there before one = search (arith, slice_get-get_or, marks_both, cases_eq, same_Some)

pub bound_all : (routes : Routes) (a b : List Bool) (n : ℕ) → length routes.ranges ≤ n → AddsMarks a b (BoundBefore routes n) → AddsMarks a b (BoundsLabels routes)
bound_all routes a b n past are = search (arith, marks_same, slice_get_within)

-- Input by input

place_same : (n : ℕ) (p q : SwitchPort) → IsInput n p → IsInput n q → place p ≡ place q → p ≡ q
place_same n p q a b same = sym (at_place n p a) ∙ ap port_at same ∙ at_place n q b

-- at one of the first inputs something changes with h
abbrev pub BeginsBefore : Routes → ℕ → ℕ → Type 0
BeginsBefore routes n h =
    (p : SwitchPort) × (place p < n) × IsInput (length routes.settings) p × BreaksAt routes p h

pub begins_next : (routes : Routes) (a b c : List Bool) (n : ℕ) (p : SwitchPort) → p ≡ port_at n → n < length routes.settings * 32 → AddsMarks a b (BeginsBefore routes n) → AddsMarks b c (BreaksAt routes p) → AddsMarks a c (BeginsBefore routes (n + 1))
begins_next routes a b c n p is inside before one = search (arith, input_at, place_at, marks_both, cases_eq, place_same)

breaks_input : (routes : Routes) (p : SwitchPort) (h : ℕ) → IsNetwork routes → BreaksAt routes p h → IsInput (length routes.settings) p
breaks_input routes p h net breaks = search (arith, is_input)

pub begins_all : (routes : Routes) (a b : List Bool) (n : ℕ) → IsNetwork routes → length routes.settings * 32 ≤ n → AddsMarks a b (BeginsBefore routes n) → AddsMarks a b (λ h. (p : SwitchPort) × BreaksAt routes p h)
begins_all routes a b n net past are =
    marks_same a b (BeginsBefore routes n) (λ h. (p : SwitchPort) × BreaksAt routes p h) are
    (λ h below. (
      (λ is.
          let here = breaks_input routes is.0 h net is.1 in
          let s = here.0 in
          let l = here.1 in
          (is.0, omega (arith, s, l, past), here, is.1)),
      (λ was. (was.0, was.3)),
    ))

-- The table of an input

pub change_marks : (routes : Routes) (a b : List Bool) (p : SwitchPort) (x : Settings) (gs : List ℕ) → IsWired routes p → link_settings routes.settings p ≡ Some x → length a ≡ header_count routes → AreSegmentsBelow x.table (header_count routes) gs → AddsMarks a b (ChangeAmong x.table gs) → AddsMarks a b (ChangesSelectAt routes p)
change_marks routes a b p x gs wired set count are marks =
    marks_same a b (ChangeAmong x.table gs) (ChangesSelectAt routes p) marks
    (λ h below. (
      (λ is.
          let changes = subst (λ (y : Settings). ChangesSelect y.table h) (Some-settings is.0 x (sym is.2 ∙ set)) is.3 in
          (changes, (are h).1 (omega (arith, below, count), change_starts x.table h changes))),
      (λ is. (x, wired, set, is.0)),
    ))

pub unwired_marks : (routes : Routes) (a : List Bool) (p : SwitchPort) → routes.peer (to_port p) ≡ None → AddsMarks a a (ChangesSelectAt routes p)
unwired_marks routes a p none = search (arith, marks_none)

-- The bounds of random headers

-- Both of an input
pub input_marks : (routes : Routes) (a b c : List Bool) (p : SwitchPort) → AddsMarks a b (ChangesSelectAt routes p) → AddsMarks b c (BoundsRandomAt routes p) → AddsMarks a c (BreaksAt routes p)
input_marks routes a b c p one two = marks_both a b c (ChangesSelectAt routes p) (BoundsRandomAt routes p) (BreaksAt routes p) one two (λ h below. ((λ x. x), (λ x. x)))

-- All of them

pub breaks_are : (routes : Routes) (a b c d : List Bool) → (length a ≡ header_count routes) → ((h : ℕ) → is_marked a h ≡ false) → AddsMarks a b (λ h. h ≡ 0) → AddsMarks b c (λ h. (p : SwitchPort) × BreaksAt routes p h) → AddsMarks c d (BoundsLabels routes) → AreBreaks routes d
breaks_are routes a b c d count none zeros tables labels = search (arith, marks_both)

-- what is written back to a list of marks
pub written_back : (old new : List Bool) (n : ℕ) → length new ≡ length old → n ≡ length old → take n (new ++ drop (length new) old) ≡ new
written_back old new n same count = search (arith, drop_all, append-nil, take_all)

pub wired_of : (routes : Routes) (p : SwitchPort) (o : Option Port) → o ≡ routes.peer (to_port p) → is_some o ≡ true → IsWired routes p
wired_of routes p o at is = search arith

pub unwired_of : (routes : Routes) (p : SwitchPort) (o : Option Port) → o ≡ routes.peer (to_port p) → is_some o ≡ false → routes.peer (to_port p) ≡ None
unwired_of routes p o at is = search arith
