-- Random headers.
use Rattle.c104_check.{proofs.RefusalLemmas.entry_same, specs.{Portals.{is_random, is_random_at, is_random_set}, Routes.IsEntryOf}}
use Rattle.c104_check.specs.Routes.{IsRandom, IsRandomAt, IsRandomIn, Routes, SwitchPort, header_count, link_settings, random_count}
use Rattle.{c104_check.specs.Trails.IsNetwork, c104_regs.specs.declared.settings.Settings.Settings, std.proofs.Common.{Bool, Option, Some}}
use Rattle.std.proofs.Common.{ap, arith, cond, false, length, nat_lt, subst, suc, sym, true, ℕ, ◌%◌, ◌+◌, ◌-◌, ◌<◌, ◌∙◌, ◌≡◌, ◌≤◌, ◌⊎◌}
use Rattle.std.proofs.lemmas.Bool.{and_parts, cases_lt, lt-ltb, ltb-true}

-- how many headers there are
abbrev pub IsCount : ℕ → Type 0
IsCount count = (count ≡ 256) ⊎ (count ≡ 65536)

count_of : (b : Bool) → IsCount (cond b 65536 256)
count_of b = search arith

pub counts : (routes : Routes) → IsCount (header_count routes)
counts routes = count_of (nat_lt 1 routes.header)

-- Round and round

pub round_small : (base n r : ℕ) → r < 256 → (r + 256 - base % 256) % 256 < n → r ≡ (base + (r + 256 - base % 256) % 256) % 256
round_small base n r low is = omega (arith, low)

pub round_large : (base n r : ℕ) → r < 65536 → (r + 65536 - base % 65536) % 65536 < n → r ≡ (base + (r + 65536 - base % 65536) % 65536) % 65536
round_large base n r low is = omega (arith, low)

pub back_small : (base n k r : ℕ) → k < n → r ≡ (base + k) % 256 → (r + 256 - base % 256) % 256 < n
back_small base n k r low is = omega (arith, low, is)

pub back_large : (base n k r : ℕ) → k < n → r ≡ (base + k) % 65536 → (r + 65536 - base % 65536) % 65536 < n
back_large base n k r low is = omega (arith, low, is)

pub on_small : (base k g : ℕ) → suc g < 256 → g ≡ (base + k) % 256 → suc g ≡ (base + (k + 1)) % 256
on_small base k g low is = omega (arith, low, is)

pub on_large : (base k g : ℕ) → suc g < 65536 → g ≡ (base + k) % 65536 → suc g ≡ (base + (k + 1)) % 65536
on_large base k g low is = omega (arith, low, is)

pub before_small : (base k g : ℕ) → suc g ≡ (base + (k + 1)) % 256 → g ≡ (base + k) % 256
before_small base k g is = omega (arith, is)

pub before_large : (base k g : ℕ) → suc g ≡ (base + (k + 1)) % 65536 → g ≡ (base + k) % 65536
before_large base k g is = omega (arith, is)

-- The test

round_by : (count base n r : ℕ) → IsCount count → r < count → (r + count - base % count) % count < n → r ≡ (base + (r + count - base % count) % count) % count
round_by count base n r size low is = search (arith, round_small, round_large)

back_by : (count base n k r : ℕ) → IsCount count → k < n → r ≡ (base + k) % count → (r + count - base % count) % count < n
back_by count base n k r size low is = search (arith, back_small, back_large)

random_tells : (count : ℕ) (x : Settings) (r : ℕ) → IsCount count → r < count → is_random count x r ≡ true → IsRandom count x r
random_tells count x r size below is =
    let both = and_parts x.randomize (nat_lt ((r + count - x.random_base % count) % count) (random_count x)) is in
    let low = ltb-true ((r + count - x.random_base % count) % count) (random_count x) both.1 in
    (both.0, ((r + count - x.random_base % count) % count, low, round_by count x.random_base (random_count x) r size below low))

random_told : (count : ℕ) (x : Settings) (r : ℕ) → IsCount count → IsRandom count x r → is_random count x r ≡ true
random_told count x r size random = search (arith, lt-ltb, back_by)

set_tells : (count r : ℕ) (o : Option Settings) → IsCount count → r < count → is_random_set count o r ≡ true → (x : Settings) × (o ≡ Some x) × IsRandom count x r
set_tells count r o size below is = search (arith, random_tells)

set_told : (count r : ℕ) (o : Option Settings) (x : Settings) → IsCount count → o ≡ Some x → IsRandom count x r → is_random_set count o r ≡ true
set_told count r o x size at random = ap (λ (y : Option Settings). is_random_set count y r) at ∙ random_told count x r size random

pub random_at_tells : (routes : Routes) (p : SwitchPort) (r : ℕ) → r < header_count routes → is_random_at routes p r ≡ true → IsRandomAt routes p r
random_at_tells routes p r below is = set_tells (header_count routes) r (link_settings routes.settings p) (counts routes) below is

pub random_at_told : (routes : Routes) (p : SwitchPort) (r : ℕ) → IsRandomAt routes p r → is_random_at routes p r ≡ true
random_at_told routes p r (x, set, random) = set_told (header_count routes) r (link_settings routes.settings p) x (counts routes) set random

mod_below : (count n : ℕ) → IsCount count → n % count < count
mod_below count n size = search arith

-- each is a header
pub random_header : (routes : Routes) (p : SwitchPort) (r : ℕ) → IsRandomAt routes p r → r < header_count routes
random_header routes p r (x, set, (random, (k, low, is))) = subst (λ n. n < header_count routes) (sym is) (mod_below (header_count routes) (x.random_base + k) (counts routes))

pub random_is_header : (routes : Routes) (r : ℕ) → IsRandomIn routes r → r < header_count routes
random_is_header routes r (t, p, entry, random) = random_header routes p r random

-- At the inputs of terminals

-- it is one at none of the first n
abbrev pub NoneRandomBefore : Routes → ℕ → ℕ → Type 0
NoneRandomBefore routes h n = (t : ℕ) (p : SwitchPort) → t < n → IsEntryOf routes t p → IsRandomAt routes p h → ⊥

pub none_random_next : (routes : Routes) (h n : ℕ) (p : SwitchPort) → IsEntryOf routes n p → is_random_at routes p h ≡ false → NoneRandomBefore routes h n → NoneRandomBefore routes h (n + 1)
none_random_next routes h n p entry not none t q below wired random = search (arith, cases_lt, entry_same, random_at_told)

pub none_random : (routes : Routes) (h n : ℕ) → IsNetwork routes → length routes.ranges ≤ n → NoneRandomBefore routes h n → IsRandomIn routes h → ⊥
none_random routes h n net past none (t, p, entry, random) = let low = net.terminals t p entry in none t p (omega (arith, low, past)) entry random
