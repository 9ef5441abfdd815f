-- What is set at the links of switches whose tables are given.
use Rattle.{c104_interval.specs.{Selection.reset_table, declared.intervals.Table.Table}, c104_plan.proofs.PlanSettings.own_table_in_range}
use Rattle.c104_plan.{proofs.PlanSettings.{random_in_range, settings_in_range}, specs.LabelledImages.{labelled_image, labelled_settings}}
use Rattle.c104_plan.specs.LabelledImages.{labelled_switch, port_grouped, port_labelled_image, port_labelled_switch, port_table, table_in}
use Rattle.c104_plan.specs.{LabelledImages.with_group, PlanImage.{AreSettings, Fits, Image, IsImage, settings_of}, Plans.{IsPlan, IsRange}}
use Rattle.{c104_plan.specs.{Plans.Plan, Ports.Port, Wiring.peer}, c104_regs.{proofs.RangeNumbers.IsInRange-from, specs.Ranges.IsInRange}}
use Rattle.{c104_regs.specs.{Ranges.IsTableInRange, declared.settings.Settings.Settings}, std.proofs.Common.{All, Bool, List, ap, arith}}
use Rattle.std.proofs.Common.{false, get_or, if◌then◌else◌, is_some, length, map, refl, true, ℕ, ◌*◌, ◌+◌, ◌<◌, ◌∙◌, ◌≡◌}
use Rattle.std.proofs.lemmas.List.{Elements.{All-map, All-same}, FromFn.{get_or-range_with_len, length-map-range_with_len}}
use Rattle.std.{proofs.lemmas.List.{FromFn.length-range_with_len, get_or_default}, specs.List.range_with_len}

-- what is set at a link of a switch with a table
abbrev pub labelled_at : Plan → Table → ℕ → ℕ → Settings
labelled_at plan table switch link = labelled_settings plan table (Port.Switch switch link)

-- the settings of all links, after the last
pub labelled_last : (plan : Plan) (table : Table) (switch links : ℕ) → links ≡ 32 → map (labelled_at plan table switch) (range_with_len 0 links) ≡ labelled_switch plan table switch
unfolding labelled_switch
labelled_last plan table switch links all = ap (λ n. map (labelled_at plan table switch) (range_with_len 0 n)) all

with_table_in_range : (plan : Plan) (p : Port) (table : Table) → IsPlan plan → IsTableInRange table → IsInRange (record (settings_of plan p) { table = table })
with_table_in_range plan p table kept within = search (arith, random_in_range, IsInRange-from)

if_in_range : (used : Bool) (a b : Settings) → IsInRange a → IsInRange b → IsInRange (if used then a else b)
if_in_range used a b here there = search arith

labelled_in_range : (plan : Plan) (p : Port) (table : Table) → IsPlan plan → IsTableInRange table → IsInRange (labelled_settings plan table p)
unfolding labelled_settings
labelled_in_range plan p table kept within = search (arith, if_in_range, with_table_in_range, settings_in_range)

-- a switch has settings for each of its links
pub are_labelled : (plan : Plan) (table : Table) (switch : ℕ) → IsPlan plan → IsTableInRange table → AreSettings (labelled_switch plan table switch)
unfolding labelled_switch
are_labelled plan table switch kept within = search (arith, length-map-range_with_len, All-map, labelled_in_range)

-- and so has each switch
abbrev pub switch_by : Plan → List Table → ℕ → List Settings
switch_by plan tables switch = labelled_switch plan (table_in tables switch) switch

pub switch_here : (plan : Plan) (tables : List Table) (k : ℕ) (d : Table) (settings : List Settings) → k < length tables → settings ≡ labelled_switch plan (get_or tables k d) k → settings ≡ switch_by plan tables k
switch_here plan tables k d settings inside is = is ∙ ap (λ (t : Table). labelled_switch plan t k) (get_or_default tables k d reset_table inside)

switch_at : (plan : Plan) (tables : List Table) (n k d : ℕ) → IsPlan plan → length tables ≡ n → All IsTableInRange tables → k < length (range_with_len 0 n) → AreSettings (switch_by plan tables (get_or (range_with_len 0 n) k d))
switch_at plan tables n k d kept many all inside = search (arith, length-range_with_len, get_or-range_with_len, are_labelled)

pub labelled_kept : (plan : Plan) (ranges : List (ℕ × ℕ)) (tables : List Table) (settings : List (List Settings)) → IsPlan plan → All (λ (range : ℕ × ℕ). IsRange range.0 range.1) ranges → length tables ≡ length plan.switches → All IsTableInRange tables
    → settings ≡ map (switch_by plan tables) (range_with_len 0 (length plan.switches)) → IsImage (record { ranges = ranges; settings = settings })
labelled_kept plan ranges tables settings kept are many all same = search (arith, All-same, All-map, switch_at)

pub labelled_fits : (plan : Plan) (tables : List Table) (image : Image) → length image.ranges ≡ length plan.terminals → image.settings ≡ map (switch_by plan tables) (range_with_len 0 (length plan.switches)) → Fits image plan
labelled_fits plan tables image ranges settings = search (arith, length-map-range_with_len)

-- Where each link has a table of its own, and may continue a group

abbrev pub port_labelled_at : Plan → (ℕ → Table) → (ℕ → Bool) → ℕ → ℕ → Settings
port_labelled_at plan tables groups switch link = with_group (groups link) (labelled_settings plan (tables link) (Port.Switch switch link))

-- the settings of all links, after the last
pub port_labelled_last : (plan : Plan) (tables : ℕ → Table) (groups : ℕ → Bool) (switch links : ℕ) → links ≡ 32 → map (port_labelled_at plan tables groups switch) (range_with_len 0 links) ≡ port_labelled_switch plan tables groups switch
unfolding port_labelled_switch
port_labelled_last plan tables groups switch links all = ap (λ n. map (port_labelled_at plan tables groups switch) (range_with_len 0 n)) all

-- what is made of the table of one link
pub port_link_here : (plan : Plan) (tables : List Table) (groups : List Bool) (switch link : ℕ) (d : Table) (e : Bool) (own settings : Settings) → switch < length plan.switches → link < 32 → length tables ≡ length plan.switches * 32 → length groups ≡ length plan.switches * 32
    → own ≡ labelled_settings plan (get_or tables (switch * 32 + link) d) (Port.Switch switch link) → settings ≡ with_group (get_or groups (switch * 32 + link) e) own → settings ≡ port_labelled_at plan (port_table tables switch) (port_grouped groups switch) switch link
port_link_here plan tables groups switch link d e own settings inside low many all own_is is =
    is
    ∙ ap (λ (grouped : Bool). with_group grouped own) (get_or_default groups (switch * 32 + link) e false (omega (arith, inside, low, all)))
    ∙ ap (with_group (port_grouped groups switch link)) (own_is ∙ ap (λ (t : Table). labelled_settings plan t (Port.Switch switch link)) (get_or_default tables (switch * 32 + link) d reset_table (omega (arith, inside, low, many))))

-- a table of a link among those of all links
pub link_in_range : (tables : List Table) (n s l : ℕ) → length tables ≡ n * 32 → All IsTableInRange tables → s < n → l < 32 → IsTableInRange (port_table tables s l)
link_in_range tables n s l many all switch link = all (s * 32 + l) reset_table (omega (arith, many, switch, link))

group_in_range : (plan : Plan) (p : Port) (table : Table) (grouped used : Bool) → IsPlan plan → IsTableInRange table → IsInRange (with_group grouped (if used then record (settings_of plan p) { table = table } else settings_of plan p))
group_in_range plan p table grouped true kept within =
    let numbers = random_in_range plan p kept in
    IsInRange-from (with_group grouped (record (settings_of plan p) { table = table })) numbers.0 numbers.1 within
group_in_range plan p table grouped false kept within =
    let numbers = random_in_range plan p kept in
    IsInRange-from (with_group grouped (settings_of plan p)) numbers.0 numbers.1 (own_table_in_range plan p kept)

grouped_in_range : (plan : Plan) (p : Port) (table : Table) (grouped : Bool) → IsPlan plan → IsTableInRange table → IsInRange (with_group grouped (labelled_settings plan table p))
unfolding labelled_settings
grouped_in_range plan p table grouped kept within = group_in_range plan p table grouped (is_some (peer plan p)) kept within

pub are_port_labelled : (plan : Plan) (tables : List Table) (groups : List Bool) (switch : ℕ) → IsPlan plan → length tables ≡ length plan.switches * 32 → All IsTableInRange tables → switch < length plan.switches → AreSettings (port_labelled_switch plan (port_table tables switch) (port_grouped groups switch) switch)
unfolding port_labelled_switch
are_port_labelled plan tables groups switch kept many all inside =
    search (arith, length-map-range_with_len, All-map, at_link, length-range_with_len)
  where
    at_link : (k d : ℕ) → k < 32 → IsInRange (port_labelled_at plan (port_table tables switch) (port_grouped groups switch) switch (get_or (range_with_len 0 32) k d))
    at_link k d below =
        let at : get_or (range_with_len 0 32) k d ≡ k = get_or-range_with_len 0 32 k d below ∙ omega arith in
        rw at (grouped_in_range plan (Port.Switch switch k) (port_table tables switch k) (port_grouped groups switch k) kept (link_in_range tables (length plan.switches) switch k many all inside below))

abbrev pub port_switch_by : Plan → List Table → List Bool → ℕ → List Settings
port_switch_by plan tables groups switch = port_labelled_switch plan (port_table tables switch) (port_grouped groups switch) switch

port_switch_at : (plan : Plan) (tables : List Table) (groups : List Bool) (n k d : ℕ) → IsPlan plan → n ≡ length plan.switches → length tables ≡ n * 32 → All IsTableInRange tables → k < length (range_with_len 0 n) → AreSettings (port_switch_by plan tables groups (get_or (range_with_len 0 n) k d))
port_switch_at plan tables groups n k d kept count many all inside =
    search (arith, length-range_with_len, get_or-range_with_len, are_port_labelled)

pub port_labelled_kept : (plan : Plan) (ranges : List (ℕ × ℕ)) (tables : List Table) (groups : List Bool) (settings : List (List Settings)) → IsPlan plan → All (λ (range : ℕ × ℕ). IsRange range.0 range.1) ranges → length tables ≡ length plan.switches * 32 → All IsTableInRange tables
    → settings ≡ map (port_switch_by plan tables groups) (range_with_len 0 (length plan.switches)) → IsImage (record { ranges = ranges; settings = settings })
port_labelled_kept plan ranges tables groups settings kept are many all same = search (arith, All-same, All-map, port_switch_at)

pub port_labelled_fits : (plan : Plan) (tables : List Table) (groups : List Bool) (image : Image) → length image.ranges ≡ length plan.terminals → image.settings ≡ map (port_switch_by plan tables groups) (range_with_len 0 (length plan.switches)) → Fits image plan
port_labelled_fits plan tables groups image ranges settings = search (arith, length-map-range_with_len)

-- one table for all links of a switch is such a table for each of them, and with no more groups
pub labelled_by_port : (plan : Plan) (ranges : List (ℕ × ℕ)) (tables : List Table) → labelled_image plan ranges tables ≡ port_labelled_image plan ranges (λ switch link. table_in tables switch) (λ switch link. false)
unfolding labelled_switch port_labelled_switch
labelled_by_port plan ranges tables = refl
