-- A filled plan keeps what every plan does.
use Rattle.c104_describe.proofs.{FilledLinks.{IsFree, hosted_links}, FilledNames.hosted_names, PlanRooted.rooted_kept}
use Rattle.c104_describe.specs.{PlanLines.filled_plan, ShapeLayouts.{hosted_plan, hosted_terminals}}
use Rattle.c104_plan.proofs.{LayoutJoins.{AreJoined, IsJoined, cube_is, mesh_is}, RangeLists.{all_of_each, all_range, each_flat}}
use Rattle.c104_plan.specs.{Distinctness.AreDistinct, Layouts.{IsCube, IsMesh, Layout, cube, filled_name, filled_switches, filled_terminal}}
use Rattle.c104_plan.specs.{Layouts.{filled_wires, mesh, wire_at, wire_to, wires_from}, Plans.{AreBases, AreContinues, AreDeletes}}
use Rattle.c104_plan.specs.Plans.{AreRandoms, AreRows, AreTerminals, IsLaterPort, IsOfShape, IsPlan, IsPlanWire, IsRange, IsUnset, Plan}
use Rattle.c104_plan.specs.{Plans.{host_port, linked_ports, next_first, rows_of, total_count}, Ports.{IsSwitchPort, is_port}}
use Rattle.c104_plan.specs.declared.plans.{PlanBase.PlanBase, PlanRandom.PlanRandom, PlanRow.PlanRow, Shape.{Shape, TheVariants.Cube}}
use Rattle.c104_plan.specs.declared.{plans.{Shape.TheVariants.{Hand, Mesh, UpDown}, Terminal.Terminal}, ports.Port.Port}
use Rattle.std.proofs.Common.{All, List, Option, Some, [], ap, arith, false, inl, length, lit≤, map, refl, subst, suc, sym, true, zero, ℕ}
use Rattle.std.proofs.{Common.{⊎_elim, ◌*◌, ◌+◌, ◌<◌, ◌^◌, ◌∙◌, ◌∷◌, ◌≡◌, ◌≤◌}, lemmas.{Bool.cases_Bool, List.Elements.{All-head, All-nil}}}
use Rattle.std.proofs.lemmas.{List.{Elements.All-weaker, FromFn.length-map-range_with_len}, Nat.{div_below, mod_below}}
use Rattle.std.specs.List.{AllByRecursion, range_with_len}

-- Without switches there is nothing at a link

no_switch : (p : Port) → IsSwitchPort 0 p → ⊥
no_switch p is = search arith

none_at : {X : Type 0} (port_of : X → Port) (xs : List X) → All (λ x. IsSwitchPort 0 (port_of x)) xs → xs ≡ []
none_at port_of [] all = refl
none_at port_of (x ∷ xs) all = absurd (no_switch (port_of x) (All-head (λ y. IsSwitchPort 0 (port_of y)) x xs all))

later_one : (p : Port) → IsLaterPort 0 p → IsSwitchPort 0 p
later_one p is = search arith

none_below : (ns : List ℕ) → All (λ n. n < 0) ns → ns ≡ []
none_below [] all = refl
none_below (n ∷ ns) all = absurd (omega (arith, All-head (λ m. m < 0) n ns all))

module _ (plan : Plan) (kept : IsPlan plan) (none : plan.switches ≡ []) where
  no_count : length plan.switches ≡ 0
  no_count = ap length none

  no_terminals : plan.terminals ≡ []
  no_terminals = none_at host_port plan.terminals (subst (λ n. All (λ (t : Terminal). IsSwitchPort n (host_port t)) plan.terminals) no_count kept.terminals.on_switches)

  pub no_deletes : plan.deletes ≡ []
  no_deletes = none_below plan.deletes (subst (λ n. All (λ t. t < n) plan.deletes) (ap length no_terminals) kept.deletes.known)

  pub nothing_set : IsUnset plan
  nothing_set = record {
    continues = none_at (λ p. p) plan.continues (All-weaker (IsLaterPort 0) (IsSwitchPort 0) later_one plan.continues (subst (λ n. All (IsLaterPort n) plan.continues) no_count kept.continues.later));
    bases = none_at (λ (b : PlanBase). b.port) plan.bases (subst (λ n. All (λ (b : PlanBase). IsSwitchPort n b.port) plan.bases) no_count kept.bases.of_inputs);
    rows = none_at (λ (r : PlanRow). r.port) plan.rows (subst (λ n. All (λ (r : PlanRow). IsSwitchPort n r.port) plan.rows) no_count kept.rows.of_inputs);
    randoms = none_at (λ (r : PlanRandom). r.port) plan.randoms (subst (λ n. All (λ (r : PlanRandom). IsSwitchPort n r.port) plan.randoms) no_count kept.randoms.of_inputs);
  }

no_continues : (n : ℕ) → AreContinues n []
no_continues n = record { later = All-nil _; once = tt }

none_deleted : (n : ℕ) → AreDeletes n []
none_deleted n = record { known = All-nil _; once = tt }

no_bases : (n : ℕ) → AreBases n []
no_bases n = record { of_inputs = All-nil _; ranges = All-nil _; once = tt }

no_rows : (n : ℕ) → AreRows n []
unfolding rows_of
no_rows n = record { of_inputs = All-nil _; ranges = All-nil _; few = λ p. lit≤ tt }

no_randoms : (n : ℕ) → AreRandoms n []
no_randoms n = record { of_inputs = All-nil _; ranges = All-nil _; once = tt }

-- What a layout gives

-- the plan with the switches and wires of a layout, whose first switches have p terminals each, on their links from `first` on
abbrev pub plan_with : Shape → Layout → ℕ → ℕ → ℕ → Plan → Plan
plan_with shape layout hosts first p plan = record plan { shape = shape; switches = filled_switches layout; terminals = hosted_terminals hosts first p; wires = filled_wires layout }

module _ (layout : Layout) (hosts first p : ℕ) (joined : AreJoined layout) (some : 0 < p) (few : layout.switches ≤ 64) (within : hosts ≤ layout.switches) (labels : hosts * p ≤ 256)
    (links : layout.links ≤ 32) (room : first + p ≤ 32) (free : (s l : ℕ) → s < hosts → first ≤ l → IsFree layout s l) where
  switch_count : length (filled_switches layout) ≡ layout.switches
  switch_count = length-map-range_with_len filled_name 0 layout.switches

  terminals_are : AreTerminals layout.switches (hosted_terminals hosts first p)
  terminals_are =
      let count : length (hosted_terminals hosts first p) ≡ hosts * p = length-map-range_with_len (filled_terminal first p) 0 (hosts * p) in
      record {
        few = omega (arith, count, labels);
        on_switches = all_range (λ (t : Terminal). IsSwitchPort layout.switches (host_port t)) (filled_terminal first p) 0 (hosts * p) (λ t lt.
            (let host = div_below t p hosts some (omega (arith, lt)) in omega (arith, host, within), omega (arith, room, mod_below t p some)));
        ranges = all_range (λ (t : Terminal). IsRange t.first t.count) (filled_terminal first p) 0 (hosts * p) (λ t lt. (omega arith, omega (arith, lt, labels)));
      }

  wire_is : (s l : ℕ) (q : Option Port) → s < layout.switches → l < layout.links → IsJoined layout s l q → AllByRecursion (IsPlanWire layout.switches) (wire_to (Port.Switch s l) q)
  wire_is s l q a b j = search arith

  wires_are : All (IsPlanWire layout.switches) (filled_wires layout)
  wires_are = all_of_each (IsPlanWire layout.switches) (filled_wires layout) (each_flat (IsPlanWire layout.switches) (wires_from layout) 0 layout.switches (λ s a.
      each_flat (IsPlanWire layout.switches) (wire_at layout s) 0 layout.links (λ l b. ⊎_elim
      (λ (t : layout.begins s l ≡ true). rw t (wire_is s l (layout.beyond s l) (omega (arith, a)) (omega (arith, b)) (joined s l (omega (arith, a)) (omega (arith, b)))))
      (λ (t : layout.begins s l ≡ false). rw t tt)
      (cases_Bool (layout.begins s l)))))

  pub links_differ : AreDistinct is_port (linked_ports (hosted_terminals hosts first p) (filled_wires layout))
  links_differ = hosted_links layout hosts first p some free joined

  filled_kept : (plan : Plan) → IsPlan plan → plan.switches ≡ [] → (shape : Shape) → IsOfShape shape (plan_with shape layout hosts first p plan) → IsPlan (plan_with shape layout hosts first p plan)
  filled_kept plan kept none shape is_shape =
      search (arith, switch_count, nothing_set, hosted_names, terminals_are, wires_are, links_differ, no_continues, no_deletes, none_deleted, no_bases, no_rows, no_randoms)

module _ (plan : Plan) (kept : IsPlan plan) (none : plan.switches ≡ []) where
  -- a record rebuilt for the filled plan, of which these lists are as they were
  unset_in : (shape : Shape) (layout : Layout) (p : ℕ) → IsUnset (filled_plan shape layout p plan)
  unset_in shape layout p = let unset = nothing_set plan kept none in record { continues = unset.continues; bases = unset.bases; rows = unset.rows; randoms = unset.randoms }

  pub mesh_kept : (w h p : ℕ) → IsMesh w h p → IsPlan (filled_plan (Mesh w h p) (mesh w h) p plan)
  mesh_kept w h p is =
      filled_kept (mesh w h) (w * h) 4 p (mesh_is w h is.wide.0) is.some is.switches (omega arith) is.labels (omega arith) (omega (arith, is.links)) (λ s l a b. inl b) plan kept none (Mesh w h p)
      (is, record { switches = refl; terminals = refl; wires = refl; unset = unset_in (Mesh w h p) (mesh w h) p })

  pub cube_kept : (d p : ℕ) → IsCube d p → 2 ^ d ≤ 64 → IsPlan (filled_plan (Cube d p) (cube d) p plan)
  cube_kept d p is few =
      filled_kept (cube d) (2 ^ d) d p (cube_is d) is.some few (omega arith) is.labels (omega (arith, is.low)) (omega (arith, is.low, is.links)) (λ s l a b. inl b) plan kept none (Cube d p)
      (is, record { switches = refl; terminals = refl; wires = refl; unset = unset_in (Cube d p) (cube d) p })

-- Networks that are labelled up and down from their first switch

total_of : (first p n count : ℕ) → total_count (map (filled_terminal first p) (range_with_len n count)) ≡ count
total_of first p n zero = refl
total_of first p n (suc count) = omega (arith, total_of first p (n + 1) count)

next_of : (first p n count : ℕ) → next_first (map (filled_terminal first p) (range_with_len n (suc count))) ≡ n + suc count
next_of first p n zero = omega arith
next_of first p n (suc count) = omega (arith, next_of first p (n + 1) count)

next_is : (first p count : ℕ) → next_first (map (filled_terminal first p) (range_with_len 0 count)) ≡ count
next_is first p zero = refl
next_is first p (suc count) = omega (arith, next_of first p 0 count)

module _ (layout : Layout) (hosts first p : ℕ) (joined : AreJoined layout) (some : 0 < p) (some_hosts : 0 < hosts) (few : layout.switches ≤ 64) (within : hosts ≤ layout.switches) (labels : hosts * p ≤ 256)
    (links : layout.links ≤ 32) (room : first + p ≤ 32) (free : (s l : ℕ) → s < hosts → first ≤ l → IsFree layout s l) where
  pub hosted_kept : (plan : Plan) → IsPlan plan → plan.switches ≡ [] → IsPlan (hosted_plan layout hosts first p plan)
  hosted_kept plan kept none =
      let by_hand : Plan = plan_with Hand layout hosts first p plan in
      let by_hand_kept : IsPlan by_hand = filled_kept layout hosts first p joined some few within labels links room free plan kept none Hand tt in
      let unset = nothing_set plan kept none in
      let count = length-map-range_with_len filled_name 0 layout.switches in
      rooted_kept by_hand by_hand_kept (UpDown (Some 0)) (omega (arith, count, some_hosts, within)) (next_is first p (hosts * p) ∙ sym (total_of first p 0 (hosts * p)))
      (record { bases = unset.bases; rows = unset.rows; randoms = unset.randoms }, λ closed. unset.continues)
