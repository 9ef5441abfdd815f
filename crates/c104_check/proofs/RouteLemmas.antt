-- What selects a link, which links are in its group, and where these lead.
use Rattle.c104_check.specs.Routes.{Arrives, IsPortal, Leads, Routes, SwitchPort, is_in_group, or_no_settings, select, settings_at}
use Rattle.c104_check.specs.{Shown.{Follows, MayLeave}, Trails.{IsInput, IsNetwork}, Walks.{Goal, discarded, peers_that, ways_of}}
use Rattle.{c104_crossbar.specs.Groups.group_contains, c104_interval.specs.{Selection.{reset_row, select_from}, declared.intervals.Row.Row}}
use Rattle.c104_interval.specs.declared.intervals.Select.{Select, TheVariants.{Discard, Link, Sink}}
use Rattle.{c104_plan.specs.{PlanImage.AreSettings, declared.ports.Port.Port}, c104_regs.specs.Groups.{continues, continues_at}}
use Rattle.{c104_regs.specs.{Ranges.IsInRange, declared.settings.Settings.Settings}, std.proofs.Common.{Bool, List, None, Option, Some, []}}
use Rattle.std.proofs.Common.{ap, arith, cond, if◌then◌else◌, inl, inr, length, nat_le, nat_lt, option_map, refl, slice_get, slice_index_or}
use Rattle.std.proofs.{Common.{subst, suc, sym, true, zero, ℕ, ◌&&◌, ◌+◌, ◌<◌, ◌∙◌, ◌∷◌, ◌≡◌, ◌≤◌, ◌⊎◌}, lemmas.Bool.Decides.nat_tests}
use Rattle.std.proofs.lemmas.{Bool.{cases_eq, cases_lt, le-leb}, Option.{get_or_from_slice_get, slice_get_past, slice_get_within}}
use Rattle.std.specs.List.{AllByRecursion}
use Rattle.c104_interval.specs.Selection as table

-- A selected link is one of the 32

pub Some-Link-same : (a b : ℕ) → Some (Link a) ≡ Some (Link b) → a ≡ b
Some-Link-same a b is = cc

selected_on : (r : Row) (rows : List Row) (h g : ℕ) (b : Bool) → ((k : ℕ) × ((slice_index_or rows k reset_row).select ≡ Link g) → (k : ℕ) × ((slice_index_or (r ∷ rows) k reset_row).select ≡ Link g)) → (select_from r.limit rows h ≡ Link g → (k : ℕ) × ((slice_index_or rows k reset_row).select ≡ Link g)) → (if b then r.select else select_from r.limit rows h) ≡ Link g → (k : ℕ) × ((slice_index_or (r ∷ rows) k reset_row).select ≡ Link g)
selected_on r rows h g b later rest is = search arith

-- a link is selected by a row
selected : (rows : List Row) (low h g : ℕ) → select_from low rows h ≡ Link g → (k : ℕ) × ((slice_index_or rows k reset_row).select ≡ Link g)
selected [] low h g is = absurd cc
selected (r ∷ rows) low h g is = selected_on r rows h g (nat_le low h && nat_lt h r.limit) (λ found. (suc found.0, found.1)) (selected rows r.limit h g) is

other_code : (g : ℕ) (b : Bool) → (if b then Discard else Sink) ≡ Link g → ⊥
other_code g b is = search arith

code_below : (g : ℕ) (b c : Bool) → nat_lt g 32 ≡ b → (if b then Link g else (if c then Discard else Sink)) ≡ Link g → g < 32
code_below g b c same is = search (arith, nat_tests, other_code)

row_below : (x : Settings) (h g : ℕ) → IsInRange x → table.select x.table h ≡ Link g → g < 32
row_below x h g kept is = search (arith, selected, code_below)

-- what is set at a link of a network is in range
pub in_range : (all : List Settings) (i : ℕ) (x : Settings) → AreSettings all → slice_get all i ≡ Some x → IsInRange x
in_range all i x are at = subst IsInRange (get_or_from_slice_get all i x x at) (are.1 i x (slice_get_within all i x at))

none_past : (i : ℕ) (x : Settings) → slice_get [] i ≡ Some x → ⊥
none_past i x is = let past = slice_get_past {X = Settings} [] i (omega arith) in cc

settings_are : (routes : Routes) (s i : ℕ) (x : Settings) → IsNetwork routes → (o : Option (List Settings)) → slice_get routes.settings s ≡ o → slice_get (or_no_settings o) i ≡ Some x → (s < length routes.settings) × AreSettings (or_no_settings o)
settings_are routes s i x net o at is = search (arith, none_past, slice_get_within)

-- where something is set, there is a link
pub are_there : (routes : Routes) (s i : ℕ) (x : Settings) → IsNetwork routes → slice_get (settings_at routes s) i ≡ Some x → (s < length routes.settings) × AreSettings (settings_at routes s)
are_there routes s i x net is = settings_are routes s i x net (slice_get routes.settings s) refl is

pub is_input : (routes : Routes) (p : SwitchPort) (x : Settings) → IsNetwork routes → slice_get (settings_at routes p.switch) p.link ≡ Some x → IsInput (length routes.settings) p
is_input routes p x net is = search (arith, are_there, slice_get_within)

given_settings : (h : ℕ) (s : Select) (o : Option Settings) → option_map (λ (x : Settings). table.select x.table h) o ≡ Some s → (x : Settings) × (o ≡ Some x) × (table.select x.table h ≡ s)
given_settings h s o is = search arith

pub selects_at : (routes : Routes) (s i h : ℕ) (sel : Select) → select routes s i h ≡ Some sel → (x : Settings) × (slice_get (settings_at routes s) i ≡ Some x) × (table.select x.table h ≡ sel)
selects_at routes s i h sel is = given_settings h sel (slice_get (settings_at routes s) i) is

pub link_below : (routes : Routes) (s i h g : ℕ) → IsNetwork routes → select routes s i h ≡ Some (Link g) → g < 32
link_below routes s i h g net is = search (arith, selects_at, row_below, in_range, are_there)

-- A group has none but the 32 links

and_first : (a b : Bool) → (a && b) ≡ true → a ≡ true
and_first a b is = search arith

group_within : (settings : List Settings) (g o : ℕ) → length settings ≡ 32 → g < 32 → 32 ≤ o → group_contains (continues_at settings) g o ≡ true → ⊥
group_within settings g o links low high is = search (arith, le-leb, and_first, slice_get_past)

-- Where the links of a group lead

-- e is one of these
abbrev pub IsAmong : Option Port → List (Option Port) → Type 0
IsAmong e [] = ⊥
IsAmong e (x ∷ xs) = (x ≡ e) ⊎ IsAmong e xs

pub all_among : (P : Option Port → Type 0) (e : Option Port) (xs : List (Option Port)) → IsAmong e xs → AllByRecursion P xs → P e
all_among P e [] is all = absurd is
all_among P e (x ∷ xs) (inl is) all = subst P is all.0
all_among P e (x ∷ xs) (inr is) all = all_among P e xs is all.1

-- the first of n links, which passes the test or doesn't
pub peers_step : (routes : Routes) (s link n : ℕ) (test : ℕ → Bool) (b : Bool) → test link ≡ b → peers_that routes s test link (suc n) ≡ cond b (routes.peer (Port.Switch s link) ∷ peers_that routes s test (link + 1) n) (peers_that routes s test (link + 1) n)
peers_step routes s link n test b is = search arith

among_later : (routes : Routes) (s from n : ℕ) (test : ℕ → Bool) (e : Option Port) (b : Bool) → test from ≡ b → IsAmong e (peers_that routes s test (from + 1) n) → IsAmong e (peers_that routes s test from (suc n))
among_later routes s from n test e b is among = search (arith, peers_step)

-- where a link leads that passes
pub range_among : (routes : Routes) (s o : ℕ) (test : ℕ → Bool) → test o ≡ true → (n from : ℕ) → from ≤ o → o < from + n → IsAmong (routes.peer (Port.Switch s o)) (peers_that routes s test from n)
range_among routes s o test passes zero from low high = absurd (omega (arith, low, high))
range_among routes s o test passes (suc n) from low high =
    elim (cases_eq o from) [
      | inl same ↦ subst (IsAmong (routes.peer (Port.Switch s o))) (sym (peers_step routes s from n test true (ap test (sym same) ∙ passes))) (inl (ap (λ l. routes.peer (Port.Switch s l)) (sym same)))
      | inr differ ↦ among_later routes s from n test (routes.peer (Port.Switch s o)) (test from) refl (range_among routes s o test passes n (from + 1) (omega (arith, low, differ)) (omega (arith, high)))
    ]

-- and what leads there
abbrev pub IsPassed : Routes → ℕ → (ℕ → Bool) → Option Port → Type 0
IsPassed routes s test e = (o : ℕ) × (test o ≡ true) × (routes.peer (Port.Switch s o) ≡ e)

passed_on : (routes : Routes) (s from n : ℕ) (test : ℕ → Bool) (e : Option Port) (b : Bool) → test from ≡ b → (IsAmong e (peers_that routes s test (from + 1) n) → IsPassed routes s test e) → IsAmong e (cond b (routes.peer (Port.Switch s from) ∷ peers_that routes s test (from + 1) n) (peers_that routes s test (from + 1) n)) → IsPassed routes s test e
passed_on routes s from n test e b is rest among = search arith

pub among_range : (routes : Routes) (s : ℕ) (test : ℕ → Bool) (e : Option Port) (n from : ℕ) → IsAmong e (peers_that routes s test from n) → IsPassed routes s test e
among_range routes s test e zero from among = absurd among
among_range routes s test e (suc n) from among = search (arith, passed_on, peers_step, among_range routes s test e n (from + 1))

-- the links of the group that is selected
abbrev pub group_peers : Routes → ℕ → ℕ → List (Option Port)
group_peers routes s g = peers_that routes s (is_in_group routes s g) 0 32

-- a link of the group is among them
pub group_among : (routes : Routes) (s i h g o : ℕ) → IsNetwork routes → select routes s i h ≡ Some (Link g) → is_in_group routes s g o ≡ true → IsAmong (routes.peer (Port.Switch s o)) (group_peers routes s g)
group_among routes s i h g o net at joined =
    let found = selects_at routes s i h (Link g) at in
    let links = (are_there routes s i found.0 net found.1).1.0 in
    elim (cases_lt o 32) [
      | inl below ↦ range_among routes s o (is_in_group routes s g) joined 32 0 (omega arith) (omega (arith, below))
      | inr past ↦ absurd (group_within (settings_at routes s) g o links (link_below routes s i h g net at) past joined)
    ]

pub among_leaves : (routes : Routes) (h g : ℕ) (p : SwitchPort) (e : Option Port) → select routes p.switch p.link h ≡ Some (Link g) → IsAmong e (group_peers routes p.switch g) → MayLeave routes h p e
among_leaves routes h g p e at among =
    let found = among_range routes p.switch (is_in_group routes p.switch g) e 32 0 among in
    (g, found.0, at, found.1, found.2)

peers_same : (xs ys : List (Option Port)) → Some xs ≡ Some ys → xs ≡ ys
peers_same xs ys is = cc

no_ways : (t : Goal) (es : List (Option Port)) (e : Option Port) → discarded t ≡ Some es → IsAmong e es → ⊥
no_ways t es e is among = search (arith, peers_same)

pub ways_leave : (routes : Routes) (h : ℕ) (t : Goal) (p : SwitchPort) (es : List (Option Port)) (e : Option Port) (o : Option Select) → select routes p.switch p.link h ≡ o → ways_of routes t p.switch o ≡ Some es → IsAmong e es → MayLeave routes h p e
ways_leave routes h t p es e None at is among = absurd cc
ways_leave routes h t p es e (Some Discard) at is among = absurd (no_ways t es e is among)
ways_leave routes h t p es e (Some Sink) at is among = absurd cc
ways_leave routes h t p es e (Some (Link g)) at is among = among_leaves routes h g p e at (subst (IsAmong e) (sym (peers_same (group_peers routes p.switch g) es is)) among)

-- where the header leads on, each link of the group arrives
pub leaves_arrives : (routes : Routes) (h t k : ℕ) (p : SwitchPort) (e : Option Port) → MayLeave routes h p e → Leads routes h t (suc k) p.switch p.link → Arrives (Leads routes h t k) t e
leaves_arrives routes h t k p e leaves leads = search (arith, Some-Link-same)

pub within : (routes : Routes) (h : ℕ) (p q : SwitchPort) → IsNetwork routes → Follows routes h p q → IsInput (length routes.settings) q
within routes h p q net (g, o, at, joined, is) = net.inputs (Port.Switch p.switch o) q is

-- a portal is an input
pub portal_input : (routes : Routes) (p q : SwitchPort) → IsNetwork routes → IsPortal routes p q → IsInput (length routes.settings) q
portal_input routes p q net portal = search (arith, selects_at, is_input)

-- a link is one of its own group
pub own_link : (continues : ℕ → Bool) (g : ℕ) → group_contains continues g g ≡ true
own_link continues g = search (arith, le-leb)
