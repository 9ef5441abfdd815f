-- Headers are as long as the plan says at all links that are wired, and so equally long.
use Rattle.c104_check.{proofs.LinkLemmas.{at_place, input_at, place_below}, specs.Routes.{Routes, header_count, length_at, length_or_one}}
use Rattle.c104_check.specs.{Routes.{link_peers, link_settings, place, port_at, to_port}, Trails.IsInput}
use Rattle.{c104_check.specs.declared.ports.SwitchPort.SwitchPort, c104_interval.specs.declared.intervals.Table.Table}
use Rattle.c104_label.proofs.{LabelledRoutes.{link_was, routes, settings_are, settings_count}, MappedRanges.map_at}
use Rattle.{c104_label.specs.TreeImages.most_labels, c104_plan.proofs.{LabelledSettings.labelled_at, Wires.wiring}}
use Rattle.c104_plan.specs.{LabelledImages.{labelled_settings, labelled_switch, table_in}, PlanImage.{settings_of, with_random}}
use Rattle.c104_plan.specs.{Plans.{IsPlan, Plan, host_port}, Wiring.peer, declared.plans.{PlanRandom.PlanRandom, Terminal.Terminal}}
use Rattle.{c104_plan.specs.declared.ports.Port.Port, c104_regs.specs.{Settings.header_length, declared.settings.Settings.Settings}}
use Rattle.std.proofs.Common.{Bool, List, None, Option, Some, ap, arith, false, get_or, if◌then◌else◌, inl, inr, is_some, length, nat_lt}
use Rattle.std.proofs.{Common.{position, refl, slice_get, sym, true, ℕ, ◌&&◌, ◌*◌, ◌<◌, ◌==◌, ◌∙◌, ◌≡◌, ◌≤◌}, lemmas.Bool.Decides.nat_tests}
use Rattle.std.proofs.lemmas.{Bool.cases_lt, List.{FromFn.length-map-range_with_len, Quantifiers.position-Some, Sums.fails_before_first}}
use Rattle.std.{proofs.lemmas.Option.{get_or_from_slice_get, slice_get_within}, specs.List.position_or_len}

-- how many bytes a plan's headers have
abbrev pub plan_bytes : Plan → ℕ
plan_bytes plan = if plan.header == 2 then 2 else 1

with_table_bytes : (b : Bool) (s : Settings) (t : Table) → (if b then record s { table = t } else s).two_byte ≡ s.two_byte
with_table_bytes b s t = search arith

with_random_bytes : (o : Option PlanRandom) (s : Settings) → (with_random o s).two_byte ≡ s.two_byte
with_random_bytes o s = search arith

both_true : (b c : Bool) → c ≡ true → (b && c) ≡ b
both_true b c is = search arith

two_byte_own : (plan : Plan) (t : Table) (p : Port) → is_some (peer plan p) ≡ true → (labelled_settings plan t p).two_byte ≡ (plan.header == 2)
unfolding labelled_settings settings_of
two_byte_own plan t p wired = search (arith, with_table_bytes, with_random_bytes, both_true)

-- where no member of a list passes a test, this one doesn't
pub none_passes : {X : Type 0} (test : X → Bool) (xs : List X) (k : ℕ) (x : X) → position test xs ≡ None → slice_get xs k ≡ Some x → test x ≡ true → ⊥
none_passes test xs k x none at passes = elim (cases_lt (position_or_len test xs) (length xs)) [
  | inl found ↦ search (arith, nat_tests, position)
  | inr past ↦
      let within = slice_get_within xs k x at in
      let fails : test (get_or xs k x) ≡ false = fails_before_first test xs k x (omega (arith, past, within)) in
      let clash : true ≡ false = sym passes ∙ ap test (sym (get_or_from_slice_get xs k x x at)) ∙ fails in absurd cc
]

-- so where one does, there is a first
first_passes : {X : Type 0} (test : X → Bool) (xs : List X) (k : ℕ) (x : X) → slice_get xs k ≡ Some x → test x ≡ true → (o : Option ℕ) → position test xs ≡ o → (j : ℕ) × (position test xs ≡ Some j)
first_passes test xs k x at passes o is = search (arith, none_passes)

-- there are as many headers as labels may be
many_by : (plan : Plan) (n : ℕ) → n ≡ plan_bytes plan → most_labels plan ≤ (if nat_lt 1 n then 65536 else 256)
many_by plan n is = search arith

module _ (plan : Plan) (ranges : List (ℕ × ℕ)) (tables : List Table) (kept : IsPlan plan) where
  abbrev net : Routes
  net = routes plan ranges tables

  abbrev ends : List (Option Port)
  ends = link_peers (peer plan) (length net.settings)

  link_found : (q : SwitchPort) → q.switch < length plan.switches → q.link < 32 → link_settings net.settings q ≡ Some (labelled_at plan (table_in tables q.switch) q.switch q.link)
  unfolding labelled_switch
  link_found q lt few = ap (λ xs. slice_get xs q.link) (settings_are plan ranges tables q.switch lt) ∙ map_at (labelled_at plan (table_in tables q.switch) q.switch) 32 q.link few

  bytes_at : (q : SwitchPort) (x : Settings) → is_some (peer plan (to_port q)) ≡ true → link_settings net.settings q ≡ Some x → header_length x ≡ plan_bytes plan
  bytes_at q x wired is =
      ap (λ (y : Settings). header_length y) (link_was plan ranges tables q x is) ∙ ap (λ (b : Bool). if b then 2 else 1) (two_byte_own plan (table_in tables q.switch) (to_port q) wired)

  place_bytes : (k : ℕ) → k < length net.settings * 32 → is_some (peer plan (to_port (port_at k))) ≡ true → length_at net.settings (Some k) ≡ plan_bytes plan
  place_bytes k below wired =
      let here = input_at (length net.settings) k below in
      let count = settings_count plan ranges tables in
      let low = here.0 in
      let found = link_found (port_at k) (omega (arith, low, count)) here.1 in
      ap length_or_one found ∙ bytes_at (port_at k) (labelled_at plan (table_in tables (port_at k).switch) (port_at k).switch (port_at k).link) wired found

  header_is : (q : SwitchPort) → IsInput (length net.settings) q → is_some (peer plan (to_port q)) ≡ true → net.header ≡ plan_bytes plan
  header_is q here wired =
      let below = place_below (length net.settings) q here in
      let at : slice_get ends (place q) ≡ Some (peer plan (to_port q)) = map_at (λ k. peer plan (to_port (port_at k))) (length net.settings * 32) (place q) below ∙ ap (λ (p : SwitchPort). Some (peer plan (to_port p))) (at_place (length net.settings) q here) in
      let first = first_passes (λ other. is_some other) ends (place q) (peer plan (to_port q)) at wired (position (λ other. is_some other) ends) refl in
      let found = position-Some (λ other. is_some other) ends first.0 None first.1 in
      let size : length ends ≡ length net.settings * 32 = length-map-range_with_len (λ k. peer plan (to_port (port_at k))) 0 (length net.settings * 32) in
      let low = found.0 in
      let inside : first.0 < length net.settings * 32 = omega (arith, low, size) in
      let end : get_or ends first.0 None ≡ peer plan (to_port (port_at first.0)) = get_or_from_slice_get ends first.0 (peer plan (to_port (port_at first.0))) None (map_at (λ k. peer plan (to_port (port_at k))) (length net.settings * 32) first.0 inside) in
      ap (length_at net.settings) first.1 ∙ place_bytes first.0 inside (sym (ap (λ (o : Option Port). is_some o) end) ∙ found.1)

  is_input : (q : SwitchPort) (other : Port) → peer plan (to_port q) ≡ Some other → IsInput (length net.settings) q
  is_input q other wired =
      let there = (wiring plan kept).inside (to_port q) other wired in
      search (arith, settings_count)

  pub same_length : (q : SwitchPort) (other : Port) (x : Settings) → net.peer (to_port q) ≡ Some other → link_settings net.settings q ≡ Some x → header_length x ≡ net.header
  same_length q other x wired is =
      let some : is_some (peer plan (to_port q)) ≡ true = ap (λ (o : Option Port). is_some o) wired in
      bytes_at q x some is ∙ sym (header_is q (is_input q other wired) some)

  -- where there is a terminal, all labels may be headers
  pub headers_many : (t : ℕ) (terminal : Terminal) → slice_get plan.terminals t ≡ Some terminal → most_labels plan ≤ header_count net
  headers_many t terminal is =
      let q : SwitchPort = record { switch = terminal.switch; link = terminal.link } in
      let there : peer plan (to_port q) ≡ Some (Port.Terminal t) = (wiring plan kept).back (Port.Terminal t) (host_port terminal) ((wiring plan kept).host t terminal is) in
      many_by plan net.header (header_is q (is_input q (Port.Terminal t) there) (ap (λ (o : Option Port). is_some o) there))
