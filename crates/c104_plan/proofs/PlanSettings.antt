-- What is set at the links of a plan's switches, made link by link and switch by switch.
use Rattle.c104_plan.{proofs.PlanTables.table_in_range, specs.PlanImage.{AreSettings, Fits, Image, is_random_of, plain_settings_of}}
use Rattle.c104_plan.specs.{PlanImage.{range_of, settings_of, switch_settings, with_random}, Plans.{IsPlan, Plan, PlanRandom}, Ports.Port}
use Rattle.c104_regs.{proofs.RangeNumbers.IsInRange-from, specs.{Ranges.{IsInRange, IsTableInRange}, declared.settings.Settings.Settings}}
use Rattle.std.proofs.Common.{All, Bool, List, Option, Some, [], ap, arith, cond, length, lit<, lit≤, map, subst, sym, ℕ, ◌++◌, ◌+◌, ◌<◌}
use Rattle.std.proofs.{Common.{◌∷◌, ◌≡◌, ◌≤◌}, lemmas.List.Elements.{All-head, All-map, All-same, All-tail}}
use Rattle.std.{proofs.lemmas.List.{FromFn.{length-map-range_with_len, map-range_with_len_more}, length-map}, specs.List.find}
use Rattle.std.specs.List.{range_with_len}

-- one more value of a function
pub made_next : {X : Type 0} (f : ℕ → X) (n : ℕ) (before after : List X) (x : X) → before ≡ map f (range_with_len 0 n) → after ≡ before ++ x ∷ [] → x ≡ f n → after ≡ map f (range_with_len 0 (n + 1))
made_next f n before after x made pushed is = search (arith, map-range_with_len_more)

-- what is set at a link of a switch
abbrev pub settings_at : Plan → ℕ → ℕ → Settings
settings_at plan switch link = settings_of plan (Port.Switch switch link)

-- the settings of all links, after the last
pub settings_last : (plan : Plan) (switch links : ℕ) → links ≡ 32 → map (settings_at plan switch) (range_with_len 0 links) ≡ switch_settings plan switch
unfolding switch_settings
settings_last plan switch links all = ap (λ n. map (settings_at plan switch) (range_with_len 0 n)) all

-- Random headers

-- settings whose random headers are within the ranges of their registers
abbrev pub IsRandomInRange : Settings → Type 0
IsRandomInRange s = (s.random_base < 65536) × (s.random_range ≤ 65536)

-- they are, too, with the line of an input among these
with_line : (lines : List PlanRandom) (p : Port) (s : Settings) → All (λ (r : PlanRandom). (r.base < 65536) × (r.range ≤ 65536)) lines → IsRandomInRange s → IsRandomInRange (with_random (find (is_random_of p) lines) s)
with_line [] p s all own = own
with_line (r ∷ lines) p s all own = by_test (is_random_of p r) (All-head (λ (x : PlanRandom). (x.base < 65536) × (x.range ≤ 65536)) r lines all) (with_line lines p s (All-tail (λ (x : PlanRandom). (x.base < 65536) × (x.range ≤ 65536)) r lines all) own)
  where
    by_test : (here : Bool) → (r.base < 65536) × (r.range ≤ 65536) → IsRandomInRange (with_random (find (is_random_of p) lines) s) → IsRandomInRange (with_random (cond here (Some r) (find (is_random_of p) lines)) s)
    by_test here first rest = search arith

pub random_in_range : (plan : Plan) (p : Port) → IsPlan plan → IsRandomInRange (settings_of plan p)
unfolding settings_of
random_in_range plan p kept = with_line plan.randoms p (plain_settings_of plan p) kept.randoms.ranges (lit< tt, lit≤ tt)

-- they leave the table as it is
same_table : (line : Option PlanRandom) (s : Settings) → (with_random line s).table ≡ s.table
same_table line s = search arith

pub own_table_in_range : (plan : Plan) (p : Port) → IsPlan plan → IsTableInRange (settings_of plan p).table
unfolding settings_of
own_table_in_range plan p kept =
    subst IsTableInRange (sym (same_table (find (is_random_of p) plan.randoms) (plain_settings_of plan p))) (table_in_range plan p kept)

pub settings_in_range : (plan : Plan) (p : Port) → IsPlan plan → IsInRange (settings_of plan p)
settings_in_range plan p kept =
    let numbers = random_in_range plan p kept in
    IsInRange-from (settings_of plan p) numbers.0 numbers.1 (own_table_in_range plan p kept)

-- a switch has settings for each of its links
pub are_settings : (plan : Plan) (switch : ℕ) → IsPlan plan → AreSettings (switch_settings plan switch)
unfolding switch_settings
are_settings plan switch kept = search (arith, length-map-range_with_len, All-map, settings_in_range)

-- and so has each switch
pub all_have_settings : (plan : Plan) (settings : List (List Settings)) → IsPlan plan → settings ≡ map (switch_settings plan) (range_with_len 0 (length plan.switches)) → All AreSettings settings
all_have_settings plan settings kept same = search (arith, All-same, All-map, are_settings)

-- such ranges and settings are as many as the plan's terminals and switches
pub Fits-from : (plan : Plan) (image : Image) → image.ranges ≡ map range_of plan.terminals → image.settings ≡ map (switch_settings plan) (range_with_len 0 (length plan.switches)) → Fits image plan
Fits-from plan image ranges settings = search (arith, length-map, length-map-range_with_len)
