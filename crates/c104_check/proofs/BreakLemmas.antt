-- A header that is no break fares as the one before it.
use Rattle.c104_check.{proofs.RandomLemmas.{IsCount, before_large, before_small, counts, on_large, on_small}, specs.Breaks.AreBreaks}
use Rattle.c104_check.specs.{Breaks.{BoundsRange, ChangesSelect, IsBreak, IsWired, is_marked}, Refusals.{AreInputs, LandSoFar, LandsAt}}
use Rattle.c104_check.specs.{Refusals.{LandsBefore, Start}, Routes.{Arrives, Homes, IsRandomAt, Lands, Leads, Roams, Routes, SwitchPort}}
use Rattle.c104_check.specs.{Routes.{has_label, header_count, link_settings, owner, random_count, select}, Trails.IsNetwork, Walks.port_of}
use Rattle.c104_interval.specs.{Segments.IsSegmentStart, declared.intervals.{Row.Row, Select.{Select, TheVariants.Link}, Table.Table}}
use Rattle.{c104_plan.specs.declared.ports.Port.Port, c104_regs.specs.declared.settings.Settings.Settings, std.proofs.Common.{Bool, List}}
use Rattle.std.proofs.Common.{Option, Some, [], ap, arith, cond, false, inl, inr, map, nat_le, nat_lt, not, option_map, position, refl}
use Rattle.std.proofs.Common.{slice_get, suc, sym, true, zero, ℕ, ◌%◌, ◌&&◌, ◌+◌, ◌-◌, ◌<◌, ◌∙◌, ◌∷◌, ◌≡◌, ◌≢◌, ◌⊎◌}
use Rattle.std.{proofs.lemmas.Bool.{Decides.nat_tests, cases_eq}, specs.List.{Contains, prefix_len}}
use Rattle.c104_interval.specs.Selection as table

same_step : (g low limit : ℕ) → (suc g ≡ low → ⊥) → (suc g ≡ limit → ⊥) → (nat_le low (suc g) && nat_lt (suc g) limit) ≡ (nat_le low g && nat_lt g limit)
same_step g low limit not_low not_limit = grind (arith, nat_tests)

rows_change : (g low : ℕ) (rs : List Row) → (table.select_from low rs (suc g) ≡ table.select_from low rs g) ⊎ ((suc g ≡ low) ⊎ Contains (map (λ r. r.limit) rs) (suc g))
rows_change g low [] = inl refl
rows_change g low (r ∷ rs) =
    elim (cases_eq (suc g) low) [
      | inl first ↦ inr (inl first)
      | inr not_low ↦ elim (cases_eq (suc g) r.limit) [
        | inl limit ↦ inr (inr (zero, omega arith, sym limit))
        | inr not_limit ↦ elim (rows_change g r.limit rs) [
          | inl alike ↦ inl (rw (same_step g low r.limit not_low not_limit) (ap (λ (s : Select). cond (nat_le low g && nat_lt g r.limit) r.select s) alike))
          | inr (inl limit) ↦ absurd (not_limit limit)
          | inr (inr later) ↦ let below = later.1 in inr (inr (suc later.0, omega (arith, below), later.2))
        ]
      ]
    ]

before_next : (g : ℕ) → suc g - 1 ≡ g
before_next g = omega arith

-- where the selection changes a segment begins
pub change_starts : (t : Table) (h : ℕ) → ChangesSelect t h → IsSegmentStart t h
change_starts t zero changes = inl refl
change_starts t (suc g) changes = search (arith, rows_change, before_next)

Link-same : (a b : ℕ) → Link a ≡ Link b → a ≡ b
Link-same a b is = cc

not_other : (a b : Select) → (a ≢ b → ⊥) → a ≡ b
not_other a b not = search (arith, cases_eq, Link-same)

-- and where it doesn't, a header selects what the one before it does
table_alike : (t : Table) (g : ℕ) → (ChangesSelect t (suc g) → ⊥) → table.select t (suc g) ≡ table.select t g
table_alike t g none = search (arith, not_other, before_next)

set_alike : (g : ℕ) (o : Option Settings) → ((x : Settings) → o ≡ Some x → table.select x.table (suc g) ≡ table.select x.table g) → option_map (λ (x : Settings). table.select x.table (suc g)) o ≡ option_map (λ (x : Settings). table.select x.table g) o
set_alike g o each = search arith

pub select_alike : (routes : Routes) (g : ℕ) (p : SwitchPort) → (IsBreak routes (suc g) → ⊥) → IsWired routes p → select routes p.switch p.link (suc g) ≡ select routes p.switch p.link g
select_alike routes g p quiet wired =
    set_alike g (link_settings routes.settings p) (λ x set. table_alike x.table g (λ changes. quiet (inr (inl (p, inl (x, wired, set, changes))))))

prefix_alike : (f g : ℕ × ℕ → Bool) (xs : List (ℕ × ℕ)) → ((k : ℕ) (x : ℕ × ℕ) → slice_get xs k ≡ Some x → f x ≡ g x) → prefix_len f xs ≡ prefix_len g xs
prefix_alike f g [] each = refl
prefix_alike f g (x ∷ xs) each =
    rw (each zero x refl) (ap (λ n. cond (g x) (1 + n) 0) (prefix_alike f g xs (λ k y at. each (suc k) y at)))

position_alike : (f g : ℕ × ℕ → Bool) (xs : List (ℕ × ℕ)) → ((k : ℕ) (x : ℕ × ℕ) → slice_get xs k ≡ Some x → f x ≡ g x) → position f xs ≡ position g xs
position_alike f g xs each = search (arith, prefix_alike)

label_alike : (g : ℕ) (r : ℕ × ℕ) → (BoundsRange r (suc g) → ⊥) → has_label r (suc g) ≡ has_label r g
label_alike g r none = search (arith, same_step)

pub owner_alike : (routes : Routes) (g : ℕ) → (IsBreak routes (suc g) → ⊥) → owner routes (suc g) ≡ owner routes g
owner_alike routes g quiet = search (arith, position_alike, label_alike)

-- what leads on leads on for the next
arrives_alike : (P Q : ℕ → ℕ → Type 0) (t : ℕ) (e : Option Port) → ((s i : ℕ) → e ≡ Some (Port.Switch s i) → P s i → Q s i) → Arrives P t e → Arrives Q t e
arrives_alike P Q t e each arrives = search arith

pub leads_alike : (routes : Routes) (g t : ℕ) → IsNetwork routes → (IsBreak routes (suc g) → ⊥) → (k : ℕ) (p : SwitchPort) → IsWired routes p → Leads routes g t k p.switch p.link → Leads routes (suc g) t k p.switch p.link
leads_alike routes g t net quiet zero p wired leads = absurd leads
leads_alike routes g t net quiet (suc k) p wired (link, at, all) = (
  link,
  select_alike routes g p quiet wired ∙ at,
  λ o joined. arrives_alike (Leads routes g t k) (Leads routes (suc g) t k) t (routes.peer (Port.Switch p.switch o))
      (λ s i there leads. leads_alike routes g t net quiet k (port_of s i) (Port.Switch p.switch o, net.back (Port.Switch p.switch o) (Port.Switch s i) there) leads)
      (all o joined),
)

pub lands_alike : (routes : Routes) (g : ℕ) (p : SwitchPort) (o : Option ℕ) → IsNetwork routes → (IsBreak routes (suc g) → ⊥) → IsWired routes p → Lands routes g p o → Lands routes (suc g) p o
lands_alike routes g p o net quiet wired lands = search (arith, select_alike, leads_alike)

-- Random headers

random_on : (count : ℕ) (x : Settings) (g k : ℕ) → k < random_count x → suc g ≡ (x.random_base + (k + 1)) % count → (suc g ≡ (x.random_base + random_count x) % count → ⊥) → (j : ℕ) × (j < random_count x) × (suc g ≡ (x.random_base + j) % count)
random_on count x g k low is no_end = search (arith, cases_eq)

step_on : (count base k g : ℕ) → IsCount count → suc g < count → g ≡ (base + k) % count → suc g ≡ (base + (k + 1)) % count
step_on count base k g size below is = search (arith, on_small, on_large)

step_back : (count base k g : ℕ) → IsCount count → suc g ≡ (base + (k + 1)) % count → g ≡ (base + k) % count
step_back count base k g size is = search (arith, before_small, before_large)

-- where random headers don't end before it, it is one as the one before it
pub random_alike : (routes : Routes) (g : ℕ) (p : SwitchPort) → (IsBreak routes (suc g) → ⊥) → suc g < header_count routes → IsRandomAt routes p g → IsRandomAt routes p (suc g)
random_alike routes g p quiet below (x, set, (random, (k, low, is))) = (
  x,
  set,
  (random, random_on (header_count routes) x g k low (step_on (header_count routes) x.random_base k g (counts routes) below is) (λ end. quiet (inr (inl (p, inr (x, set, (random, inr end))))))),
)

random_back : (routes : Routes) (g : ℕ) (p : SwitchPort) (x : Settings) → (IsBreak routes (suc g) → ⊥) → link_settings routes.settings p ≡ Some x → x.randomize ≡ true → (k : ℕ) → k < random_count x → suc g ≡ (x.random_base + k) % header_count routes → IsRandomAt routes p g
random_back routes g p x quiet set random zero low is =
    absurd (quiet (inr (inl (p, inr (x, set, (random, inl (is ∙ ap (λ n. n % header_count routes) (let e : x.random_base + 0 ≡ x.random_base = omega arith in e))))))))
random_back routes g p x quiet set random (suc k) low is = (
  x,
  set,
  (random, (k, omega (arith, low), step_back (header_count routes) x.random_base k g (counts routes) (is ∙ ap (λ n. n % header_count routes) (let e : x.random_base + suc k ≡ x.random_base + (k + 1) = omega arith in e)))),
)

-- and the other way round
pub random_before : (routes : Routes) (g : ℕ) (p : SwitchPort) → (IsBreak routes (suc g) → ⊥) → IsRandomAt routes p (suc g) → IsRandomAt routes p g
random_before routes g p quiet (x, set, (random, (k, low, is))) = random_back routes g p x quiet set random k low is

-- what homes does so for the next
roams_alike : (P Q : ℕ → ℕ → Type 0) (e : Option Port) → ((s i : ℕ) → e ≡ Some (Port.Switch s i) → P s i → Q s i) → Roams P e → Roams Q e
roams_alike P Q e each roams = search arith

pub homes_alike : (routes : Routes) (g : ℕ) → IsNetwork routes → (IsBreak routes (suc g) → ⊥) → (k : ℕ) (p : SwitchPort) → IsWired routes p → Homes routes g k p.switch p.link → Homes routes (suc g) k p.switch p.link
homes_alike routes g net quiet zero p wired homes = absurd homes
homes_alike routes g net quiet (suc k) p wired (inl discards) = inl (select_alike routes g p quiet wired ∙ discards)
homes_alike routes g net quiet (suc k) p wired (inr (link, at, all)) = inr (
  link,
  select_alike routes g p quiet wired ∙ at,
  λ o joined. roams_alike (Homes routes g k) (Homes routes (suc g) k) (routes.peer (Port.Switch p.switch o))
      (λ s i there homes. homes_alike routes g net quiet k (port_of s i) (Port.Switch p.switch o, net.back (Port.Switch p.switch o) (Port.Switch s i) there) homes)
      (all o joined),
)

-- At starts

at_alike : (routes : Routes) (g : ℕ) (start : Start) → IsNetwork routes → (IsBreak routes (suc g) → ⊥) → suc g < header_count routes → IsWired routes start.at → LandsAt routes g start → LandsAt routes (suc g) start
at_alike routes g start net quiet below wired lands = search (arith, owner_alike, lands_alike, random_alike)

pub before_alike : (routes : Routes) (starts : List Start) (g n : ℕ) → IsNetwork routes → AreInputs routes starts → (IsBreak routes (suc g) → ⊥) → suc g < header_count routes → LandsBefore routes starts g n → LandsBefore routes starts (suc g) n
before_alike routes starts g n net are quiet below before k start less at =
    at_alike routes g start net quiet below (are k start at).1 (before k start less at)

-- so what holds up to a header holds up to the next, where that is no break
pub so_far_alike : (routes : Routes) (marks : List Bool) (starts : List Start) (h n : ℕ) → IsNetwork routes → AreBreaks routes marks → AreInputs routes starts → h < header_count routes → is_marked marks h ≡ false → LandSoFar routes starts h n → LandsBefore routes starts h n
so_far_alike routes marks starts zero n net are inputs below not before = search arith
so_far_alike routes marks starts (suc g) n net are inputs below not before =
    before_alike routes starts g n net inputs (λ breaks. let first : is_marked marks (suc g) ≡ true = (are.marked (suc g) below).1 breaks in let clash : true ≡ false = sym first ∙ not in absurd cc) below (before g (omega arith))
