-- What decides where packets go in a network whose switches have tables that are given, as those of labels.
use Rattle.c104_check.{proofs.NetworkLemmas.network_of, specs.Routes.{IsRandomized, Routes, header_count, is_in_group, link_settings}}
use Rattle.c104_check.specs.{Routes.{or_no_settings, routes_of, select, settings_at, to_port}, Trails.IsNetwork}
use Rattle.{c104_check.specs.declared.ports.SwitchPort.SwitchPort, c104_crossbar.specs.Groups.{group_contains, is_joined_run}}
use Rattle.{c104_interval.specs.{Selection.reset_table, declared.intervals.Table.Table}, c104_label.proofs.MappedRanges.{map_at, map_was}}
use Rattle.c104_plan.proofs.{LabelledSettings.{are_labelled, labelled_at, labelled_fits}, PortLemmas.is_port-true, RangeLists.all_range}
use Rattle.c104_plan.{proofs.Wires.wiring, specs.LabelledImages.{labelled_image, labelled_settings, labelled_switch, table_in}}
use Rattle.c104_plan.specs.{PlanImage.{AreSettings, is_random_of, plain_settings_of, settings_of, with_random}, Plans.{IsPlan, Plan}}
use Rattle.c104_plan.specs.{Plans.{deletes_at, host_port, is_continued, is_on}, Ports.is_any_at, Wiring.peer}
use Rattle.{c104_plan.specs.declared.{plans.{PlanRandom.PlanRandom, Terminal.Terminal}, ports.Port.Port}, c104_regs.specs.Groups.continues}
use Rattle.{c104_regs.specs.{Groups.continues_at, Ranges.IsTableInRange, declared.settings.Settings.Settings}, std.proofs.Common.All}
use Rattle.std.proofs.Common.{Bool, List, Option, Some, [], ap, arith, false, if◌then◌else◌, inl, inr, is_some, length, map, option_map}
use Rattle.std.proofs.{Common.{refl, slice_get, suc, sym, true, zero, ℕ, ◌+◌, ◌<◌, ◌==◌, ◌∙◌, ◌∷◌, ◌≡◌, ◌≤◌}, lemmas.Bool.Decides.nat_tests}
use Rattle.std.{proofs.lemmas.{Bool.{cases_Bool, cases_lt}, List.FromFn.length-map-range_with_len, Option.slice_get_past}, specs.List.find}
use Rattle.std.specs.List.{list_any, range_with_len}
use Rattle.c104_interval.specs.Selection as table

-- Where no link continues a group, each link is a group by itself

joined_none : (continue : ℕ → Bool) (low n : ℕ) → ((l : ℕ) → continue l ≡ false) → is_joined_run continue low n ≡ (n == 0)
joined_none continue low zero none = refl
joined_none continue low (suc n) none = let t : (suc n == 0) ≡ false = grind (arith, nat_tests) in rw (none (low + suc n), t) refl

pub group_alone : (continue : ℕ → Bool) (g o : ℕ) → ((l : ℕ) → continue l ≡ false) → group_contains continue g o ≡ (o == g)
group_alone continue g o none = search (arith, cases_Bool, joined_none, nat_tests)

-- Headers

-- there are at least 256, whatever their length
pub headers_many : (routes : Routes) → 256 ≤ header_count routes
headers_many routes = search arith

-- Settings that a plan's own lines say

with_table_deletes : (b : Bool) (s : Settings) (t : Table) → (if b then record s { table = t } else s).delete_header ≡ s.delete_header
with_table_deletes b s t = search arith

with_table_continues : (b : Bool) (s : Settings) (t : Table) → (if b then record s { table = t } else s).continue_group ≡ s.continue_group
with_table_continues b s t = search arith

with_random_deletes : (o : Option PlanRandom) (s : Settings) → (with_random o s).delete_header ≡ s.delete_header
with_random_deletes o s = search arith

with_random_continues : (o : Option PlanRandom) (s : Settings) → (with_random o s).continue_group ≡ s.continue_group
with_random_continues o s = search arith

deletes_own : (plan : Plan) (t : Table) (p : Port) → (labelled_settings plan t p).delete_header ≡ deletes_at plan p
unfolding labelled_settings settings_of
deletes_own plan t p = with_table_deletes (is_some (peer plan p)) _ t ∙ with_random_deletes (find (is_random_of p) plan.randoms) (plain_settings_of plan p)

continues_own : (plan : Plan) (t : Table) (p : Port) → (labelled_settings plan t p).continue_group ≡ is_continued plan p
unfolding labelled_settings settings_of
continues_own plan t p = with_table_continues (is_some (peer plan p)) _ t ∙ with_random_continues (find (is_random_of p) plan.randoms) (plain_settings_of plan p)

with_table_randomizes : (b : Bool) (s : Settings) (t : Table) → (if b then record s { table = t } else s).randomize ≡ s.randomize
with_table_randomizes b s t = search arith

-- where no line of a plan says so, an input has no random headers
pub settings_plain : (plan : Plan) (p : Port) → plan.randoms ≡ [] → (settings_of plan p).randomize ≡ false
unfolding settings_of
settings_plain plan p unset = ap (λ randoms. (with_random (find (is_random_of p) randoms) (plain_settings_of plan p)).randomize) unset

pub plain_own : (plan : Plan) (t : Table) (p : Port) → plan.randoms ≡ [] → (labelled_settings plan t p).randomize ≡ false
unfolding labelled_settings
plain_own plan t p unset = with_table_randomizes (is_some (peer plan p)) _ t ∙ settings_plain plan p unset

none_continued : (plan : Plan) (p : Port) → plan.continues ≡ [] → is_continued plan p ≡ false
unfolding is_any_at
none_continued plan p none = ap (λ ports. is_any_at (λ q. q) ports p) none

-- a terminal of the deletes is on a port where headers are deleted
any_on : (plan : Plan) (p : Port) (ds : List ℕ) → list_any (λ terminal. is_on p (slice_get plan.terminals terminal)) ds ≡ true → (k : ℕ) × (is_on p (slice_get plan.terminals k) ≡ true)
any_on plan p [] is = absurd cc
any_on plan p (d ∷ ds) is = elim (cases_Bool (is_on p (slice_get plan.terminals d))) [
  | inl here ↦ (d, here)
  | inr not ↦ any_on plan p ds (rw not at is)
]

on_terminal : (p : Port) (o : Option Terminal) → is_on p o ≡ true → (t : Terminal) × (o ≡ Some t) × (host_port t ≡ p)
on_terminal p o is = search (arith, is_port-true)

-- so none are deleted where a wire leads to a switch
pub none_deleted : (plan : Plan) (p : Port) (s l : ℕ) → IsPlan plan → peer plan p ≡ Some (Port.Switch s l) → deletes_at plan p ≡ false
unfolding deletes_at
none_deleted plan p s l kept wired = elim (cases_Bool (deletes_at plan p)) [
  | inr not ↦ not
  | inl is ↦
      let found = any_on plan p plan.deletes is in
      let terminal = on_terminal p (slice_get plan.terminals found.0) found.1 in
      let w = wiring plan kept in
      search arith
]

-- A plan and its image with tables make a network

pub labelled_network : (plan : Plan) (ranges : List (ℕ × ℕ)) (tables : List Table) → IsPlan plan → length ranges ≡ length plan.terminals → length tables ≡ length plan.switches → All IsTableInRange tables → IsNetwork (routes_of plan (labelled_image plan ranges tables))
labelled_network plan ranges tables kept all many within =
    network_of plan (labelled_image plan ranges tables) kept
    (all_range AreSettings (λ switch. labelled_switch plan (table_in tables switch) switch) 0 (length plan.switches) (λ s lt. are_labelled plan (table_in tables s) s kept (within s reset_table (omega (arith, lt, many)))))
    (labelled_fits plan tables (labelled_image plan ranges tables) all refl)

-- The routes of an image with tables

module _ (plan : Plan) (ranges : List (ℕ × ℕ)) (tables : List Table) where
  abbrev pub routes : Routes
  routes = routes_of plan (labelled_image plan ranges tables)

  abbrev at : ℕ → ℕ → Settings
  at s l = labelled_at plan (table_in tables s) s l

  pub settings_are : (s : ℕ) → s < length plan.switches → settings_at routes s ≡ labelled_switch plan (table_in tables s) s
  settings_are s lt = ap or_no_settings (map_at (λ switch. labelled_switch plan (table_in tables switch) switch) (length plan.switches) s lt)

  pub settings_count : length routes.settings ≡ length plan.switches
  settings_count = length-map-range_with_len (λ switch. labelled_switch plan (table_in tables switch) switch) 0 (length plan.switches)

  none_set : (s : ℕ) → length plan.switches ≤ s → settings_at routes s ≡ []
  none_set s le = ap or_no_settings (slice_get_past routes.settings s (omega (arith, settings_count, le)))

  -- what is set at a link
  pub link_was : (q : SwitchPort) (x : Settings) → link_settings routes.settings q ≡ Some x → x ≡ at q.switch q.link
  unfolding labelled_switch
  link_was q x is = elim (cases_lt q.switch (length plan.switches)) [
    | inl lt ↦ (map_was (at q.switch) 32 q.link x (ap (λ xs. slice_get xs q.link) (sym (settings_are q.switch lt)) ∙ is)).1
    | inr ge ↦ search (arith, slice_get_past, none_set)
  ]

  -- what a header selects at a port that has a wire
  pub selected : (s i h : ℕ) → s < length plan.switches → i < 32 → is_some (peer plan (Port.Switch s i)) ≡ true → select routes s i h ≡ Some (table.select (table_in tables s) h)
  unfolding labelled_switch labelled_settings
  selected s i h lt few wired =
      let found : slice_get (settings_at routes s) i ≡ Some (at s i) = ap (λ xs. slice_get xs i) (settings_are s lt) ∙ map_at (at s) 32 i few in
      ap (option_map (λ (settings : Settings). table.select settings.table h)) found ∙ (rw wired refl)

  -- a link is a group by itself where no line says that one continues another
  pub alone : (s g o : ℕ) → plan.continues ≡ [] → s < length plan.switches → is_in_group routes s g o ≡ (o == g)
  unfolding labelled_switch
  alone s g o unset lt = group_alone (continues_at (settings_at routes s)) g o none
    where
      none : (l : ℕ) → continues_at (settings_at routes s) l ≡ false
      none l = ap (λ xs. continues_at xs l) (settings_are s lt) ∙ elim (cases_lt l 32) [
        | inl below ↦ ap continues (map_at (at s) 32 l below) ∙ continues_own plan (table_in tables s) (Port.Switch s l) ∙ none_continued plan (Port.Switch s l) unset
        | inr past ↦ ap continues (slice_get_past (map (at s) (range_with_len 0 32)) l (let e : length (map (at s) (range_with_len 0 32)) ≡ 32 = length-map-range_with_len (at s) 0 32 in omega (arith, e, past)))
      ]

  -- headers aren't deleted at a port that is wired to a switch
  pub keeps : (q other : SwitchPort) (x : Settings) → IsPlan plan → routes.peer (to_port q) ≡ Some (to_port other) → link_settings routes.settings q ≡ Some x → x.delete_header ≡ false
  keeps q other x kept wired is = search (arith, link_was, deletes_own, none_deleted)

  -- no link puts random headers before packets where no line of the plan says so
  pub not_randomized : (q : SwitchPort) → plan.randoms ≡ [] → IsRandomized routes q → ⊥
  not_randomized q unset random = search (arith, link_was, plain_own)
