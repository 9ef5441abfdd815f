-- What each line without a fault keeps of the plan: what its type does, and what the line leaves as it was.
use Rattle.c104_describe.proofs.{FilledKept.{cube_kept as filled_cube, hosted_kept, mesh_kept as filled_mesh}, ShapeJoins.clos_free}
use Rattle.c104_describe.{proofs.ShapeJoins.{clos_is, parallel_is, torus_is}, specs.{LineFaults.is_fault_of, PlanDrafts.is_by_hand}}
use Rattle.c104_describe.specs.{PlanDrafts.is_mixed, PlanFaults.PlanFaultKind, PlanLines.{Draft, LineParts, clos_parts, is_bad_number}}
use Rattle.c104_describe.specs.PlanLines.{is_from_to, keyword_parts, names_port, number_said, own_base_parts, own_row_parts, port_link}
use Rattle.c104_describe.specs.PlanLines.{port_name, port_said, select_said, selected_link, switch_said, terminal_parts, torus_parts}
use Rattle.c104_describe.specs.{PlanLines.value_said, PlanWords.Keyword, ShapeLayouts.{clos, parallel, torus}, SharedTables.has_shared}
use Rattle.{c104_interval.specs.declared.intervals.TheConstants.ROWS, c104_plan.proofs.LayoutJoins.{cube_is, mesh_is}}
use Rattle.c104_plan.proofs.{LayoutNumbers.{power_small, times}, PlanKept.{with_base, with_buffer, with_continue, with_delete, with_header}}
use Rattle.c104_plan.{proofs.PlanKept.{with_random, with_row, with_switch, with_terminal, with_wire}, specs.Layouts.{cube, mesh}}
use Rattle.c104_plan.specs.{PlanParts.has_some, Plans.{HasGroupsAlone, IsPlan, IsPlanSelect, IsPlanWire, Plan, is_buffer_size}}
use Rattle.c104_plan.specs.Plans.{is_continued, is_deleted, is_linked, label_count, last_link, most_header_bytes, most_terminals}
use Rattle.c104_plan.specs.{Plans.{next_first, rows_of, switch_number, terminal_number, total_count}, Ports.{IsSwitchPort, is_any_at}}
use Rattle.c104_plan.specs.{TextWords.read_number, declared.plans.{PlanBase.PlanBase, PlanRandom.PlanRandom, PlanRow.PlanRow, Shape.Shape}}
use Rattle.c104_plan.specs.declared.{plans.{Shape.TheVariants.Hand, Terminal.Terminal}, ports.{Port.Port, Wire.Wire}}
use Rattle.std.proofs.Common.{Bool, List, None, Ok, Option, Some, [], ap, arith, bytes_eq, codes, false, get_or, if◌then◌else◌, inl, inr}
use Rattle.std.proofs.Common.{is_none, is_some, length, length-append, nat_le, nat_lt, not, refl, sym, true, ℕ, ⊎_elim, ◌*◌, ◌++◌, ◌+◌, ◌<◌}
use Rattle.std.proofs.{Common.{◌==◌, ◌^◌, ◌||◌, ◌∙◌, ◌∷◌, ◌≡◌, ◌≤◌}, lemmas.Bool.{and_parts, cases_Bool, eqb-false, eqb-true, leb-true}}
use Rattle.std.proofs.lemmas.{Bool.{ltb-false, or_parts}, List.Quantifiers.position-Some, Nat.pow_pos, Slice.Eq.bytes_eq-Decides}
use Rattle.std.specs.Option.{option_map_or, unwrap_or}

-- Conditions that hold

is_so : (b : Bool) → not b ≡ false → b ≡ true
is_so b is = search arith

holds : (b rest : Bool) → (not b || rest) ≡ false → b ≡ true
holds b rest is = is_so b (or_parts (not b) rest is).0

-- a number passes its test
tested : (o : Option ℕ) (test : ℕ → Bool) → not (option_map_or test o false) ≡ false → test (unwrap_or o 0) ≡ true
tested o test is = search (arith, is_so)

-- there is room for one more
one_more : (there most : ℕ) → nat_lt most (there + 1) ≡ false → there < most
one_more there most is = let end = ltb-false most (there + 1) is in omega (arith, end)

-- a number lies within its range
pub number_kept : (least most : ℕ) (word : List ℕ) → is_bad_number (Some word) (is_from_to least most) ≡ false → (least ≤ value_said word) × (value_said word ≤ most)
number_kept least most word good = search (arith, and_parts, leb-true)

count_kept : (word : Option (List ℕ)) → is_bad_number word (is_from_to 1 label_count) ≡ false → 1 ≤ number_said 1 word
count_kept word good = search (arith, number_kept)

-- a name that is used is that of a switch, or of a terminal
there_is : (o : Option ℕ) → is_none o ≡ false → o ≡ Some (unwrap_or o 0)
there_is o is = search arith

pub switch_inside : (plan : Plan) (name : List ℕ) → is_none (switch_number plan name) ≡ false → switch_said plan name < length plan.switches
unfolding switch_number
switch_inside plan name known = (position-Some (λ other. bytes_eq other name) plan.switches (switch_said plan name) [] (there_is (switch_number plan name) known)).0

terminal_inside : (plan : Plan) (name : List ℕ) → is_none (terminal_number plan name) ≡ false → unwrap_or (terminal_number plan name) 0 < length plan.terminals
unfolding terminal_number
terminal_inside plan name known = search (arith, position-Some, bytes_eq, there_is)

free_of : (o : Option ℕ) (test : ℕ → Bool) → is_none o ≡ false → option_map_or test o false ≡ false → test (unwrap_or o 0) ≡ false
free_of o test known is = search arith

-- rows of an input that has room for one more
one_row : (o : Option ℕ) (count : ℕ → ℕ) → is_none o ≡ false → nat_lt ROWS (option_map_or count o 0 + 1) ≡ false → count (unwrap_or o 0) < ROWS
one_row o count known is = search (arith, one_more)

-- a port is one of a switch, and hasn't what no line named of it
module _ (plan : Plan) (at : List ℕ) (known : is_none (switch_number plan (port_name at)) ≡ false) where
  port_kept : is_bad_number (Some (port_link at)) (is_from_to 0 last_link) ≡ false → IsSwitchPort (length plan.switches) (port_said plan at)
  port_kept good = let low = (number_kept 0 last_link (port_link at) good).1 in (switch_inside plan (port_name at) known, omega (arith, low))

  port_free : (test : Port → Bool) → names_port plan test at ≡ false → test (port_said plan at) ≡ false
  port_free test is = free_of (switch_number plan (port_name at)) (λ switch. test (Port.Switch switch (value_said (port_link at)))) known is

-- names of two switches are the same where their numbers are
pub same_switch : (plan : Plan) (a b : List ℕ) (s t : ℕ) → switch_number plan a ≡ Some s → switch_number plan b ≡ Some t → bytes_eq a b ≡ (s == t)
unfolding switch_number
same_switch plan a b s t is_a is_b = by_tests (bytes_eq a b) (s == t) refl refl
  where
    by_tests : (x y : Bool) → bytes_eq a b ≡ x → (s == t) ≡ y → x ≡ y
    by_tests true true same is = refl
    by_tests false false differ isn't = refl
    by_tests true false same isn't =
        let equal : a ≡ b = (bytes_eq-Decides a b).0 same in
        let numbers : Some s ≡ Some t = sym is_a ∙ ap (switch_number plan) equal ∙ is_b in
        let one : s ≡ t = cc in
        absurd (eqb-false s t isn't one)
    by_tests false true differ is =
        let at_a : get_or plan.switches s [] ≡ a = (bytes_eq-Decides (get_or plan.switches s []) a).0 (position-Some (λ other. bytes_eq other a) plan.switches s [] is_a).1 in
        let at_b : get_or plan.switches t [] ≡ b = (bytes_eq-Decides (get_or plan.switches t []) b).0 (position-Some (λ other. bytes_eq other b) plan.switches t [] is_b).1 in
        let equal : a ≡ b = sym at_a ∙ ap (λ i. get_or plan.switches i []) (eqb-true s t is) ∙ at_b in
        sym differ ∙ (bytes_eq-Decides a b).1 equal

-- what a row selects
select_kept : (word : List ℕ) → is_bad_number (selected_link word) (is_from_to 0 last_link) ≡ false → IsPlanSelect (select_said word)
select_kept word good = search (arith, bytes_eq, codes, number_kept)

-- What a line leaves as it was

-- a plan after one more line, which adds no terminal
pub record IsNext (plan next : Plan) : Type 0 where
  pub kept : IsPlan next
  pub shape : next.shape ≡ plan.shape
  pub more : length plan.switches ≤ length next.switches
  pub terminals : next.terminals ≡ plan.terminals

-- what is set at links stays
pub record IsSetAs (plan next : Plan) : Type 0 where
  pub alone : HasGroupsAlone plan → HasGroupsAlone next
  pub ungrouped : plan.continues ≡ [] → next.continues ≡ []

-- and which sets nothing at a link
abbrev pub IsBeside : Plan → Plan → Type 0
IsBeside plan next = IsNext plan next × IsSetAs plan next

-- a plan after one more terminal's line
pub record IsHosting (from : Option (List ℕ)) (plan next : Plan) : Type 0 where
  pub kept : IsPlan next
  pub shape : next.shape ≡ plan.shape
  pub switches : next.switches ≡ plan.switches
  pub unset : IsSetAs plan next
  pub counted : from ≡ None → next_first plan.terminals ≡ total_count plan.terminals → next_first next.terminals ≡ total_count next.terminals

same_unset : (plan next : Plan) → next.continues ≡ plan.continues → next.bases ≡ plan.bases → next.rows ≡ plan.rows → next.randoms ≡ plan.randoms → IsSetAs plan next
same_unset plan next continues bases rows randoms = record {
  alone = λ is. record { bases = bases ∙ is.bases; rows = rows ∙ is.rows; randoms = randoms ∙ is.randoms };
  ungrouped = λ none. continues ∙ none;
}

next_first-pushed : (terminals : List Terminal) (t : Terminal) → next_first (terminals ++ t ∷ []) ≡ t.first + t.count
next_first-pushed [] t = refl
next_first-pushed (u ∷ []) t = refl
next_first-pushed (u ∷ v ∷ terminals) t = next_first-pushed (v ∷ terminals) t

total-pushed : (terminals : List Terminal) (t : Terminal) → total_count (terminals ++ t ∷ []) ≡ total_count terminals + t.count
total-pushed [] t = omega arith
total-pushed (u ∷ terminals) t = omega (arith, total-pushed terminals t)

-- without `from` a terminal's range begins where that of the terminal before ended
begins_there : (next : ℕ) (from : Option (List ℕ)) → from ≡ None → number_said next from ≡ next
begins_there next from none = search arith

-- Lines

-- a product of two that aren't zero isn't
some_of_both : (a b : ℕ) → 0 < a → 0 < b → 0 < a * b
some_of_both a b some_a some_b = omega (arith, some_a, times 1 b a some_b)

-- the larger of two fits where both do
larger_fits : (m n k most : ℕ) → m * k ≤ most → n * k ≤ most → (if nat_le m n then n else m) * k ≤ most
larger_fits m n k most a b = ⊎_elim (λ (t : nat_le m n ≡ true). rw t b) (λ (t : nat_le m n ≡ false). rw t a) (cases_Bool (nat_le m n))

by_hand : (shape : Shape) → not (is_by_hand shape) ≡ false → shape ≡ Hand
by_hand shape is = search arith

-- a line of these parts has no fault
abbrev pub IsSound : Plan → LineParts → Type 0
IsSound plan parts = (fault : PlanFaultKind) → is_fault_of plan parts fault ≡ false

module _ (draft : Draft) (is_plain : Bool) (kept : IsPlan draft.plan) where
  abbrev plan : Plan
  plan = draft.plan

  -- the line has no fault
  abbrev pub IsRead : Keyword → List (List ℕ) → Type 0
  IsRead k words = IsSound draft.plan (record (keyword_parts draft k words) { is_known = true; is_plain = is_plain; is_mixed = is_mixed draft k words })

  abbrev pub after : Keyword → List (List ℕ) → Plan
  after k words = (keyword_parts draft k words).next.plan

  next_by : (next : Plan) → IsPlan next → next.shape ≡ plan.shape → next.switches ≡ plan.switches → next.terminals ≡ plan.terminals → IsNext plan next
  next_by next is shape switches terminals = record { kept = is; shape = shape; more = let same = ap length switches in omega (arith, same); terminals = terminals }

  pub hand_kept : not (is_by_hand plan.shape) ≡ false → plan.shape ≡ Hand
  hand_kept = by_hand plan.shape

  pub switch_kept : (name : List ℕ) → IsRead Keyword.Switch (name ∷ []) → IsBeside plan (after Keyword.Switch (name ∷ []))
  switch_kept name sound = (
    record {
      kept = with_switch plan kept name (by_hand plan.shape (sound PlanFaultKind.MixedStyle)) (holds _ _ (sound PlanFaultKind.BadName)) (or_parts _ _ (sound PlanFaultKind.NameTaken)).0 (one_more _ _ (or_parts _ _ (sound PlanFaultKind.TooMany)).0);
      shape = refl;
      more = omega (arith, length-append plan.switches (name ∷ []));
      terminals = refl;
    },
    same_unset plan _ refl refl refl refl,
  )

  pub terminal_kept : (name at : List ℕ) (range : Option (List ℕ) × Option (List ℕ)) (mixed : Bool) → plan.shape ≡ Hand
      → IsSound draft.plan (record (terminal_parts draft name at (Ok range)) { is_known = true; is_plain = is_plain; is_mixed = mixed }) → IsHosting range.1 plan (terminal_parts draft name at (Ok range)).next.plan
  terminal_kept name at range mixed hand sound =
      let numbers = or_parts _ _ (sound PlanFaultKind.BadNumber) in
      let names = sound PlanFaultKind.BadName in
      let known = (or_parts _ _ (sound PlanFaultKind.UnknownName)).0 in
      let counts = or_parts _ _ (sound PlanFaultKind.TooMany) in
      let count = number_said 1 range.0 in
      let first = number_said (next_first plan.terminals) range.1 in
      let t : Terminal = record { name = name; switch = switch_said plan (port_name at); link = value_said (port_link at); first = first; count = count } in
      let some : 1 ≤ count = count_kept range.0 (or_parts _ _ numbers.1).0 in
      let ends : first + count ≤ label_count = ltb-false label_count (first + count) (or_parts _ _ counts.1).0 in
      record {
        kept = with_terminal plan kept t hand (holds _ _ names) (or_parts _ _ (sound PlanFaultKind.NameTaken)).0 (port_kept plan at known numbers.0)
            (port_free plan at known (is_linked plan) (or_parts _ _ (sound PlanFaultKind.LinkTaken)).0) (one_more (length plan.terminals) most_terminals counts.0)
            (omega (arith, some), ends);
        shape = refl;
        switches = refl;
        unset = same_unset plan _ refl refl refl refl;
        counted = λ none so_far.
            let there : first ≡ next_first plan.terminals = begins_there (next_first plan.terminals) range.1 none in
            omega (arith, next_first-pushed plan.terminals t, total-pushed plan.terminals t, so_far, there);
      }

  pub wire_kept : (here there : List ℕ) → IsRead Keyword.Wire (here ∷ there ∷ []) → IsBeside plan (after Keyword.Wire (here ∷ there ∷ []))
  wire_kept here there sound =
      let numbers = or_parts _ _ (sound PlanFaultKind.BadNumber) in
      let used = or_parts _ _ (sound PlanFaultKind.UnknownName) in
      let far_used = or_parts _ _ used.1 in
      let linked = or_parts _ _ (sound PlanFaultKind.LinkTaken) in
      let s = switch_said plan (port_name here) in
      let t = switch_said plan (port_name there) in
      let differ : (s == t) ≡ false =
      sym (same_switch plan (port_name here) (port_name there) s t (there_is _ used.0) (there_is _ far_used.0)) ∙ (or_parts _ _ (sound PlanFaultKind.SelfWire)).0 in
      let w : Wire = record { here = port_said plan here; there = port_said plan there } in
      let is_wire : IsPlanWire (length plan.switches) w =
      (port_kept plan here used.0 numbers.0, port_kept plan there far_used.0 (or_parts _ _ numbers.1).0, eqb-false s t differ) in (
        next_by _ (with_wire plan kept w (by_hand plan.shape (sound PlanFaultKind.MixedStyle)) is_wire (rw differ refl) (port_free plan here used.0 (is_linked plan) linked.0) (port_free plan there far_used.0 (is_linked plan) (or_parts _ _ linked.1).0)) refl refl refl,
        same_unset plan _ refl refl refl refl,
      )

  pub continue_alone : (at : List ℕ) → HasGroupsAlone plan → HasGroupsAlone (after Keyword.Continue (at ∷ []))
  continue_alone at alone = record { bases = alone.bases; rows = alone.rows; randoms = alone.randoms }

  pub continue_kept : (at : List ℕ) → plan.shape ≡ Hand → IsRead Keyword.Continue (at ∷ []) → IsNext plan (after Keyword.Continue (at ∷ []))
  continue_kept at hand sound =
      let numbers = or_parts _ _ (sound PlanFaultKind.BadNumber) in
      let known = (or_parts _ _ (sound PlanFaultKind.UnknownName)).0 in
      let low = number_kept 1 last_link (port_link at) (or_parts _ _ numbers.1).0 in
      let is = port_kept plan at known numbers.0 in
      next_by _ (with_continue plan kept (port_said plan at) hand (is.0, omega (arith, low.0), is.1) (port_free plan at known (is_continued plan) (sound PlanFaultKind.Twice))) refl refl refl

  pub delete_kept : (name : List ℕ) → IsRead Keyword.Delete (name ∷ []) → IsBeside plan (after Keyword.Delete (name ∷ []))
  delete_kept name sound =
      let known = (or_parts _ _ (sound PlanFaultKind.UnknownName)).0 in (
        next_by _ (with_delete plan kept (unwrap_or (terminal_number plan name) 0) (terminal_inside plan name known) (free_of (terminal_number plan name) (is_deleted plan) known (sound PlanFaultKind.Twice))) refl refl refl,
        same_unset plan _ refl refl refl refl,
      )

  pub base_kept : (at base : List ℕ) (mixed : Bool) → plan.shape ≡ Hand → IsSound draft.plan (record (own_base_parts draft at base) { is_known = true; is_plain = is_plain; is_mixed = mixed }) → IsNext plan (own_base_parts draft at base).next.plan
  base_kept at base mixed hand sound =
      let numbers = or_parts _ _ (sound PlanFaultKind.BadNumber) in
      let known = (or_parts _ _ (sound PlanFaultKind.UnknownName)).0 in
      let low = (number_kept 0 0xffff base (or_parts _ _ numbers.1).0).1 in
      let b : PlanBase = record { port = port_said plan at; base = value_said base } in
      next_by _ (with_base plan kept b hand (port_kept plan at known numbers.0) (omega (arith, low)) (port_free plan at known (is_any_at (λ (b : PlanBase). b.port) plan.bases) (sound PlanFaultKind.Twice))) refl refl refl

  pub row_kept : (at limit select : List ℕ) (mixed : Bool) → plan.shape ≡ Hand → IsSound draft.plan (record (own_row_parts draft at limit select) { is_known = true; is_plain = is_plain; is_mixed = mixed }) → IsNext plan (own_row_parts draft at limit select).next.plan
  row_kept at limit select mixed hand sound =
      let numbers = or_parts _ _ (sound PlanFaultKind.BadNumber) in
      let others = or_parts _ _ numbers.1 in
      let known = (or_parts _ _ (sound PlanFaultKind.UnknownName)).0 in
      let r : PlanRow = record { port = port_said plan at; limit = value_said limit; select = select_said select } in
      let few = one_row (switch_number plan (port_name at)) (λ switch. length (rows_of (Port.Switch switch (value_said (port_link at))) plan.rows)) known (or_parts _ _ (sound PlanFaultKind.TooMany)).0 in
      next_by _ (with_row plan kept r hand (port_kept plan at known numbers.0) (number_kept 0 label_count limit others.0).1 (select_kept select (or_parts _ _ others.1).0) few) refl refl refl

  pub random_kept : (at base range : List ℕ) → plan.shape ≡ Hand → IsRead Keyword.Random (at ∷ base ∷ range ∷ []) → IsNext plan (after Keyword.Random (at ∷ base ∷ range ∷ []))
  random_kept at base range hand sound =
      let numbers = or_parts _ _ (sound PlanFaultKind.BadNumber) in
      let others = or_parts _ _ numbers.1 in
      let known = (or_parts _ _ (sound PlanFaultKind.UnknownName)).0 in
      let low = (number_kept 0 0xffff base others.0).1 in
      let r : PlanRandom = record { port = port_said plan at; base = value_said base; range = value_said range } in
      next_by _ (with_random plan kept r hand (port_kept plan at known numbers.0) (omega (arith, low)) (number_kept 0 label_count range (or_parts _ _ others.1).0).1 (port_free plan at known (is_any_at (λ (r : PlanRandom). r.port) plan.randoms) (sound PlanFaultKind.Twice))) refl refl refl

  pub header_kept : (bytes : List ℕ) → IsRead Keyword.Header (bytes ∷ []) → IsBeside plan (after Keyword.Header (bytes ∷ []))
  header_kept bytes sound =
      let within = number_kept 1 most_header_bytes bytes (or_parts _ _ (sound PlanFaultKind.BadNumber)).0 in
      (next_by _ (with_header plan kept (value_said bytes) (omega (arith, within.0)) within.1) refl refl refl, same_unset plan _ refl refl refl refl)

  pub buffer_kept : (size : List ℕ) → IsRead Keyword.Buffer (size ∷ []) → IsBeside plan (after Keyword.Buffer (size ∷ []))
  buffer_kept size sound =
      (next_by _ (with_buffer plan kept (value_said size) (tested (read_number size) is_buffer_size (or_parts _ _ (sound PlanFaultKind.BadNumber)).0)) refl refl refl, same_unset plan _ refl refl refl refl)

  -- a mesh or a cube, where there was no switch
  abbrev pub IsFilledPlan : Plan → Type 0
  IsFilledPlan next = IsPlan next × is_by_hand next.shape ≡ false

  pub mesh_kept : (width height terminals : List ℕ) → plan.switches ≡ [] → IsRead Keyword.Mesh (width ∷ height ∷ terminals ∷ []) → IsFilledPlan (after Keyword.Mesh (width ∷ height ∷ terminals ∷ []))
  mesh_kept width height terminals none sound =
      let numbers = or_parts _ _ (sound PlanFaultKind.BadNumber) in
      let others = or_parts _ _ numbers.1 in
      let counts = or_parts _ _ (sound PlanFaultKind.TooMany) in
      let some = number_kept 1 28 terminals (or_parts _ _ others.1).0 in (
        filled_mesh plan kept none (value_said width) (value_said height) (value_said terminals) (record {
          wide = number_kept 1 64 width numbers.0;
          high = number_kept 1 64 height others.0;
          some = some.0;
          links = some.1;
          switches = ltb-false _ _ counts.0;
          labels = ltb-false _ _ (or_parts _ _ counts.1).0;
        }),
        refl,
      )

  pub cube_kept : (dimensions terminals : List ℕ) → plan.switches ≡ [] → IsRead Keyword.Cube (dimensions ∷ terminals ∷ []) → IsFilledPlan (after Keyword.Cube (dimensions ∷ terminals ∷ []))
  cube_kept dimensions terminals none sound =
      let numbers = or_parts _ _ (sound PlanFaultKind.BadNumber) in
      let low = (number_kept 0 6 dimensions numbers.0).1 in
      let some = number_kept 1 26 terminals (or_parts _ _ numbers.1).0 in (
        filled_cube plan kept none (value_said dimensions) (value_said terminals) (record {
          low = low;
          some = some.0;
          links = some.1;
          labels = ltb-false _ _ (or_parts _ _ (sound PlanFaultKind.TooMany)).0;
        }) (power_small (value_said dimensions) low),
        refl,
      )

  -- networks that are labelled up and down from their first switch

  pub wide_mesh_kept : (width height terminals wires : List ℕ) → plan.switches ≡ [] → IsRead Keyword.Mesh (width ∷ height ∷ terminals ∷ wires ∷ []) → IsFilledPlan (after Keyword.Mesh (width ∷ height ∷ terminals ∷ wires ∷ []))
  wide_mesh_kept width height terminals wires none sound =
      let first = or_parts _ _ (sound PlanFaultKind.BadNumber) in
      let second = or_parts _ _ first.1 in
      let third = or_parts _ _ second.1 in
      let counts = or_parts _ _ (sound PlanFaultKind.TooMany) in
      let more = or_parts _ _ counts.1 in
      let w = value_said width in
      let h = value_said height in
      let p = value_said terminals in
      let k = value_said wires in
      let wide = number_kept 1 64 width first.0 in
      let high = number_kept 1 64 height second.0 in
      let some = number_kept 1 28 terminals third.0 in
      let made = number_kept 2 7 wires (or_parts _ _ third.1).0 in
      let room : 4 * k + p ≤ 32 = ltb-false _ _ (or_parts _ _ more.1).0 in
      let made_some : 0 < k = omega (arith, made.0) in (
        hosted_kept (parallel k (mesh w h)) (w * h) (4 * k) p (parallel_is k (mesh w h) made_some (mesh_is w h wide.0)) some.0 (some_of_both w h wide.0 high.0)
            (ltb-false _ _ counts.0) (omega arith) (ltb-false _ _ more.0) (omega (arith, room)) room (λ s l a b. inl b) plan kept none,
        refl,
      )

  pub wide_cube_kept : (dimensions terminals wires : List ℕ) → plan.switches ≡ [] → IsRead Keyword.Cube (dimensions ∷ terminals ∷ wires ∷ []) → IsFilledPlan (after Keyword.Cube (dimensions ∷ terminals ∷ wires ∷ []))
  wide_cube_kept dimensions terminals wires none sound =
      let first = or_parts _ _ (sound PlanFaultKind.BadNumber) in
      let second = or_parts _ _ first.1 in
      let counts = or_parts _ _ (sound PlanFaultKind.TooMany) in
      let d = value_said dimensions in
      let p = value_said terminals in
      let k = value_said wires in
      let low = (number_kept 0 6 dimensions first.0).1 in
      let some = number_kept 1 26 terminals second.0 in
      let made = number_kept 2 31 wires (or_parts _ _ second.1).0 in
      let room : d * k + p ≤ 32 = ltb-false _ _ (or_parts _ _ counts.1).0 in
      let made_some : 0 < k = omega (arith, made.0) in (
        hosted_kept (parallel k (cube d)) (2 ^ d) (d * k) p (parallel_is k (cube d) made_some (cube_is d)) some.0 (pow_pos d)
            (power_small d low) (omega arith) (ltb-false _ _ counts.0) (omega (arith, room)) room (λ s l a b. inl b) plan kept none,
        refl,
      )

  abbrev pub IsShapeRead : LineParts → Type 0
  IsShapeRead parts = IsSound draft.plan (record parts { is_known = true; is_plain = is_plain; is_mixed = has_some plan.switches || (is_some draft.labels || has_shared draft.shared) })

  pub torus_kept : (width height terminals wires : List ℕ) → plan.switches ≡ [] → IsShapeRead (torus_parts draft width height terminals wires) → IsFilledPlan (torus_parts draft width height terminals wires).next.plan
  torus_kept width height terminals wires none sound =
      let first = or_parts _ _ (sound PlanFaultKind.BadNumber) in
      let second = or_parts _ _ first.1 in
      let third = or_parts _ _ second.1 in
      let counts = or_parts _ _ (sound PlanFaultKind.TooMany) in
      let more = or_parts _ _ counts.1 in
      let w = value_said width in
      let h = value_said height in
      let p = value_said terminals in
      let k = value_said wires in
      let wide = number_kept 1 64 width first.0 in
      let high = number_kept 1 64 height second.0 in
      let some = number_kept 1 24 terminals third.0 in
      let made = number_kept 1 3 wires (or_parts _ _ third.1).0 in
      let room : 4 * (2 * k) + p ≤ 32 = ltb-false _ _ (or_parts _ _ more.1).0 in
      let made_some : 0 < 2 * k = omega (arith, made.0) in (
        hosted_kept (parallel (2 * k) (torus w h)) (w * h) (4 * (2 * k)) p (parallel_is (2 * k) (torus w h) made_some (torus_is w h wide.0)) some.0 (some_of_both w h wide.0 high.0)
            (ltb-false _ _ counts.0) (omega arith) (ltb-false _ _ more.0) (omega (arith, room)) room (λ s l a b. inl b) plan kept none,
        refl,
      )

  pub clos_kept : (leaves spines terminals wires : List ℕ) → plan.switches ≡ [] → IsShapeRead (clos_parts draft leaves spines terminals wires) → IsFilledPlan (clos_parts draft leaves spines terminals wires).next.plan
  clos_kept leaves spines terminals wires none sound =
      let first = or_parts _ _ (sound PlanFaultKind.BadNumber) in
      let second = or_parts _ _ first.1 in
      let third = or_parts _ _ second.1 in
      let counts = or_parts _ _ (sound PlanFaultKind.TooMany) in
      let more = or_parts _ _ counts.1 in
      let m = value_said leaves in
      let n = value_said spines in
      let p = value_said terminals in
      let k = value_said wires in
      let some_leaves = number_kept 1 32 leaves first.0 in
      let few_spines = (number_kept 1 31 spines second.0).1 in
      let some = number_kept 1 31 terminals third.0 in
      let made = (number_kept 1 31 wires (or_parts _ _ third.1).0).0 in
      let room : n * k + p ≤ 32 = ltb-false _ _ more.0 in
      let few : m * k ≤ 32 = ltb-false _ _ (or_parts _ _ more.1).0 in (
        hosted_kept (parallel k (clos m n)) m (n * k) p (parallel_is k (clos m n) made (clos_is m n)) some.0 some_leaves.0
            (omega (arith, some_leaves.1, few_spines)) (omega arith) (ltb-false _ _ counts.0) (larger_fits m n k 32 few (omega (arith, room))) room (λ s l a b. inr (clos_free m n k s l made a b)) plan kept none,
        refl,
      )
