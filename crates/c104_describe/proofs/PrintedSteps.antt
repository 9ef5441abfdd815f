-- Each printed line is read back, after the lines before it.
use Rattle.c104_describe.proofs.DistinctPlaces.{All-here, distinct_back, distinct_front, distinct_mapped, fresh, position_at}
use Rattle.c104_describe.proofs.{PlanLinesKept.same_switch, PrintedNumbers.{number-decimal, value-decimal}, PrintedPorts.cut-port}
use Rattle.c104_describe.{proofs.PrintedPorts.{link-good, link-port, name-port, select-good, select-is}, specs.LineFaults.read_plan_words}
use Rattle.c104_describe.specs.{PlanDrafts.{Draft, excludes_groups, is_by_hand}, PlanLines.{is_bad_number, is_from_to, is_one_dot}}
use Rattle.c104_describe.specs.{PlanLines.{names_switch, port_link, port_name, value_said}, PlanPrint.{base_words, continue_words}}
use Rattle.c104_describe.specs.PlanPrint.{delete_words, random_words, row_words, switch_words, terminal_words, wire_words}
use Rattle.{c104_describe.specs.SharedTables.nothing_shared, c104_interval.specs.declared.intervals.Select.Select}
use Rattle.c104_plan.{proofs.PortLemmas.is_port-refl, specs.{Distinctness.AreDistinct, PlanParts.has_some, Plans.{IsLaterPort, IsPlan}}}
use Rattle.c104_plan.specs.Plans.{IsPlanSelect, IsPlanWire, IsRange, Plan, host_port, is_deleted, is_linked, is_row_of, is_taken}
use Rattle.c104_plan.specs.Plans.{label_count, last_link, linked_ports, names, rows_of, switch_number, terminal_number}
use Rattle.c104_plan.specs.{PortTexts.{port_text, terminal_name}, Ports.{IsSwitchPort, both_ends, is_any_at, is_port}, TextWords.dots}
use Rattle.c104_plan.specs.{TextWords.is_name, declared.plans.{PlanBase.PlanBase, PlanRandom.PlanRandom, PlanRow.PlanRow, Shape.Shape}}
use Rattle.{c104_plan.specs.declared.{plans.Terminal.Terminal, ports.{Port.Port, Wire.Wire}, text.Dots.Dots}, std.proofs.Common.{All, Bool}}
use Rattle.std.proofs.Common.{List, None, Ok, Option, Some, [], ap, append-nil, append_assoc, arith, bytes_eq, cond, false, filter, get_or}
use Rattle.std.proofs.Common.{length, length-append, map, nat_lt, position, refl, subst, sym, true, ℕ, ◌++◌, ◌+◌, ◌<◌, ◌==◌, ◌||◌, ◌∙◌, ◌∷◌}
use Rattle.std.proofs.{Common.{◌≡◌, ◌≢◌, ◌≤◌}, lemmas.{Bool.{Decides.nat_tests, or_parts}, List.Elements.filter-append}}
use Rattle.std.proofs.lemmas.List.{Folds.list_any-append, get_or-append-add, get_or-map, get_or_append_left, length-map, map-append}
use Rattle.std.{proofs.lemmas.{Option.slice_get-get_or, Slice.Eq.bytes_eq-Decides}, specs.{Fmt.decimal, List.list_any}}
use Rattle.std.specs.Option.{option_map_or, unwrap_or}

pub bytes_eq-refl : (xs : List ℕ) → bytes_eq xs xs ≡ true
bytes_eq-refl xs = (bytes_eq-Decides xs xs).1 refl

-- a draft of this plan, behind the lines of the header length and of the buffer size
abbrev pub draft_with : Bool → Option Shape → Plan → Draft
draft_with from_said labels plan = record { plan = plan; shared = nothing_shared; header_said = true; buffer_said = true; from_said = from_said; labels = labels }

-- one of a plan that is made line by line, whose terminals' lines say where ranges begin if there are any
abbrev pub draft_by_hand : List Terminal → Plan → Draft
draft_by_hand terminals plan = draft_with (has_some terminals) None plan

names_none : (at : Dots) → is_one_dot at ≡ true → names_switch at ≡ false
names_none at is = search arith

has_more : {X : Type 0} (xs : List X) (x : X) → has_some (xs ++ x ∷ []) ≡ true
has_more [] x = refl
has_more (y ∷ xs) x = grind (arith, nat_tests)

or_true : (b : Bool) → (b || true) ≡ true
or_true b = search arith

module _ (plan : Plan) (kept : IsPlan plan) where
  -- The plan as it is while each kind is read

  abbrev pub with_switches : List (List ℕ) → Plan
  with_switches done = record plan { switches = done; terminals = []; wires = []; continues = []; deletes = []; bases = []; rows = []; randoms = [] }

  abbrev pub with_terminals : List Terminal → Plan
  with_terminals done = record plan { terminals = done; wires = []; continues = []; deletes = []; bases = []; rows = []; randoms = [] }

  abbrev pub with_wires : List Wire → Plan
  with_wires done = record plan { wires = done; continues = []; deletes = []; bases = []; rows = []; randoms = [] }

  abbrev pub with_continues : List Port → Plan
  with_continues done = record plan { continues = done; deletes = []; bases = []; rows = []; randoms = [] }

  abbrev pub with_deletes : List ℕ → Plan
  with_deletes done = record plan { deletes = done; bases = []; rows = []; randoms = [] }

  abbrev pub with_bases : List PlanBase → Plan
  with_bases done = record plan { bases = done; rows = []; randoms = [] }

  abbrev pub with_rows : List PlanRow → Plan
  with_rows done = record plan { rows = done; randoms = [] }

  abbrev pub with_randoms : List PlanRandom → Plan
  with_randoms done = record plan { randoms = done }

  -- Switches

  abbrev of_terminals : List (List ℕ)
  of_terminals = map (λ (t : Terminal). t.name) plan.terminals

  pub switches_differ : AreDistinct bytes_eq plan.switches
  switches_differ = distinct_front bytes_eq plan.switches of_terminals kept.names.differ

  pub switch_named : All (λ name. is_name name ≡ true) plan.switches
  switch_named = search (arith, get_or_append_left, length-append)

  pub switch_step : is_by_hand plan.shape ≡ true → (done : List (List ℕ)) (name : List ℕ) (more : List (List ℕ)) → done ++ name ∷ more ≡ plan.switches
      → read_plan_words (draft_with false None (with_switches done)) true (switch_words name) ≡ Ok (draft_with false None (with_switches (done ++ name ∷ [])))
  unfolding is_taken
  switch_step hand done name more is =
      let named : is_name name ≡ true = All-here (λ n. is_name n ≡ true) plan.switches done name more is switch_named in
      search (arith, bytes_eq, append-nil, fresh, switches_differ, length-append, nat_tests)

  -- Ports of switches

  abbrev pub name_of : ℕ → List ℕ
  name_of s = get_or plan.switches s []

  module _ (s l : ℕ) (is : IsSwitchPort (length plan.switches) (Port.Switch s l)) where
    pub port_named : is_name (name_of s) ≡ true
    port_named = switch_named s [] is.0

    pub port_printed : port_text plan (Port.Switch s l) ≡ name_of s ++ 0x2e ∷ decimal l
    port_printed = ap (λ name. unwrap_or name [] ++ 0x2e ∷ decimal l) (slice_get-get_or plan.switches s [] is.0)

    pub port_cut : is_one_dot (dots (port_text plan (Port.Switch s l))) ≡ true
    port_cut = ap (λ word. is_one_dot (dots word)) port_printed ∙ cut-port (name_of s) l port_named is.1

    -- and it names no switch alone
    pub port_own : names_switch (dots (port_text plan (Port.Switch s l))) ≡ false
    port_own = names_none (dots (port_text plan (Port.Switch s l))) port_cut

    pub port_name-is : port_name (port_text plan (Port.Switch s l)) ≡ name_of s
    port_name-is = ap port_name port_printed ∙ name-port (name_of s) l port_named is.1

    pub port_link-is : port_link (port_text plan (Port.Switch s l)) ≡ decimal l
    port_link-is = ap port_link port_printed ∙ link-port (name_of s) l port_named is.1

    pub link_good : is_bad_number (Some (decimal l)) (is_from_to 0 last_link) ≡ false
    link_good = link-good l is.1

    pub link_is : value_said (decimal l) ≡ l
    link_is = value-decimal l (omega (arith, is.1))

    pub port_number : position (λ switch. bytes_eq switch (name_of s)) plan.switches ≡ Some s
    port_number = position_at bytes_eq bytes_eq-refl plan.switches s [] is.0 switches_differ

  -- Terminals

  pub terminal_named : All (λ (t : Terminal). is_name t.name ≡ true) plan.terminals
  terminal_named = λ i d inside.
      let all : List (List ℕ) = names plan.switches plan.terminals in
      let long : length all ≡ length plan.switches + length plan.terminals = length-append plan.switches of_terminals ∙ ap (λ n. length plan.switches + n) (length-map plan.terminals (λ (t : Terminal). t.name)) in
      let same : get_or all (length plan.switches + i) d.name ≡ (get_or plan.terminals i d).name =
      get_or-append-add plan.switches of_terminals i d.name
      ∙ get_or-map (λ (t : Terminal). t.name) plan.terminals i d d.name inside in
      subst (λ name. is_name name ≡ true) same (kept.names.named (length plan.switches + i) d.name (omega (arith, long)))

  terminals_differ : AreDistinct (λ (t u : Terminal). bytes_eq t.name u.name) plan.terminals
  terminals_differ = distinct_mapped bytes_eq (λ (t : Terminal). t.name) plan.terminals (distinct_back bytes_eq plan.switches of_terminals kept.names.differ)

  module _ (done : List Terminal) (t : Terminal) (more : List Terminal) (is : done ++ t ∷ more ≡ plan.terminals) where
    pub name_free : list_any (λ other. bytes_eq other t.name) (names plan.switches done) ≡ false
    name_free = search (arith, map-append, append_assoc, fresh, bytes_eq)

    pub host_free : list_any (λ q. is_port q (host_port t)) (map host_port done ++ []) ≡ false
    host_free = search (arith, map-append, append_assoc, append-nil, fresh)

    pub terminal_step : is_by_hand plan.shape ≡ true → read_plan_words (draft_by_hand done (with_terminals done)) true (terminal_words plan t) ≡ Ok (draft_by_hand (done ++ t ∷ []) (with_terminals (done ++ t ∷ [])))
    unfolding is_taken is_linked switch_number
    terminal_step hand =
        let on_switch : IsSwitchPort (length plan.switches) (host_port t) = All-here (λ (u : Terminal). IsSwitchPort (length plan.switches) (host_port u)) plan.terminals done t more is kept.terminals.on_switches in
        let range : IsRange t.first t.count = All-here (λ (u : Terminal). IsRange u.first u.count) plan.terminals done t more is kept.terminals.ranges in
        let named : is_name t.name ≡ true = All-here (λ (u : Terminal). is_name u.name ≡ true) plan.terminals done t more is terminal_named in
        let count_good = number-decimal 1 label_count t.count (omega (arith, range.0)) (omega (arith, range.1)) (omega (arith, range.1)) in
        let first_good = number-decimal 0 0xffff t.first (omega arith) (omega (arith, range.0, range.1)) (omega (arith, range.1)) in
        let long = length-append done (t ∷ more) in
        let whole : length (done ++ t ∷ more) ≡ length plan.terminals = ap length is in
        let room : nat_lt 256 (length done + 1) ≡ false = grind (arith, nat_tests, kept.terminals.few) in
        let ends : nat_lt label_count (t.first + t.count) ≡ false = grind (arith, nat_tests, range.1) in
        let said : has_some (done ++ t ∷ []) ≡ true = has_more done t in
        rw (port_cut t.switch t.link on_switch, port_name-is t.switch t.link on_switch, port_link-is t.switch t.link on_switch, link_good t.switch t.link on_switch, link_is t.switch t.link on_switch, count_good, value-decimal t.count (omega (arith, range.1)), first_good, value-decimal t.first (omega (arith, range.1)), named, port_named t.switch t.link on_switch, name_free, port_number t.switch t.link on_switch, host_free, room, ends, hand, or_true (has_some done), said) refl

  -- Wires

  both_ends-append : (ws vs : List Wire) → both_ends (ws ++ vs) ≡ both_ends ws ++ both_ends vs
  both_ends-append [] vs = refl
  both_ends-append (w ∷ ws) vs = ap (λ ports. w.here ∷ w.there ∷ ports) (both_ends-append ws vs)

  module _ (done : List Wire) (w : Wire) (more : List Wire) (is : done ++ w ∷ more ≡ plan.wires) where
    ends_cut : linked_ports plan.terminals plan.wires ≡ linked_ports plan.terminals done ++ w.here ∷ w.there ∷ both_ends more
    ends_cut = search (arith, both_ends-append, append_assoc)

    ends_differ : AreDistinct is_port (linked_ports plan.terminals done ++ w.here ∷ w.there ∷ both_ends more)
    ends_differ = subst (AreDistinct is_port) ends_cut kept.links

    here_free : list_any (λ q. is_port q w.here) (linked_ports plan.terminals done) ≡ false
    here_free = fresh is_port (linked_ports plan.terminals done) w.here (w.there ∷ both_ends more) ends_differ

    there_free : list_any (λ q. is_port q w.there) (linked_ports plan.terminals done) ≡ false
    there_free =
        let ports : List Port = linked_ports plan.terminals done in
        let behind : AreDistinct is_port ((ports ++ w.here ∷ []) ++ w.there ∷ both_ends more) = subst (AreDistinct is_port) (sym (append_assoc ports (w.here ∷ []) (w.there ∷ both_ends more))) ends_differ in
        let none = fresh is_port (ports ++ w.here ∷ []) w.there (both_ends more) behind in
        (or_parts _ _ (sym (list_any-append (λ q. is_port q w.there) ports (w.here ∷ [])) ∙ none)).0

  wire_line : (said : Bool) → is_by_hand plan.shape ≡ true → (done : List Wire) (here there : Port) → IsPlanWire (length plan.switches) (record { here = here; there = there })
      → list_any (λ q. is_port q here) (linked_ports plan.terminals done) ≡ false → list_any (λ q. is_port q there) (linked_ports plan.terminals done) ≡ false
      → read_plan_words (draft_with said None (with_wires done)) true (wire_words plan (record { here = here; there = there })) ≡ Ok (draft_with said None (with_wires (done ++ record { here = here; there = there } ∷ [])))
  unfolding is_linked switch_number
  wire_line said hand done (Port.Terminal t) there is free far_free = absurd is.0
  wire_line said hand done (Port.Switch s l) (Port.Terminal t) is free far_free = absurd is.1
  wire_line said hand done (Port.Switch s l) (Port.Switch r k) is free far_free =
      let other : s ≢ r = is.2 in
      let differ : (s == r) ≡ false = grind (arith, nat_tests) in
      let apart : bytes_eq (name_of s) (name_of r) ≡ false = same_switch plan (name_of s) (name_of r) s r (port_number s l is.0) (port_number r k is.1) ∙ differ in
      rw (port_cut s l is.0, port_name-is s l is.0, port_link-is s l is.0, link_good s l is.0, link_is s l is.0, port_cut r k is.1, port_name-is r k is.1, port_link-is r k is.1, link_good r k is.1, link_is r k is.1, port_named s l is.0, port_named r k is.1, port_number s l is.0, port_number r k is.1, apart, free, far_free, hand) refl

  pub wire_step : (said : Bool) → is_by_hand plan.shape ≡ true → (done : List Wire) (w : Wire) (more : List Wire) → done ++ w ∷ more ≡ plan.wires
      → read_plan_words (draft_with said None (with_wires done)) true (wire_words plan w) ≡ Ok (draft_with said None (with_wires (done ++ w ∷ [])))
  wire_step said hand done w more is = wire_line said hand done w.here w.there (All-here (IsPlanWire (length plan.switches)) plan.wires done w more is kept.wires) (here_free done w more is) (there_free done w more is)

  -- Continues

  continue_line : (said : Bool) (labels : Option Shape) → excludes_groups labels ≡ false → is_by_hand plan.shape ≡ true → (done : List Port) (p : Port) → IsLaterPort (length plan.switches) p → list_any (λ q. is_port q p) done ≡ false
      → read_plan_words (draft_with said labels (with_continues done)) true (continue_words plan p) ≡ Ok (draft_with said labels (with_continues (done ++ p ∷ [])))
  unfolding is_any_at switch_number
  continue_line said labels allowed hand done (Port.Terminal t) later free = absurd later
  continue_line said labels allowed hand done (Port.Switch s l) later free =
      let is : IsSwitchPort (length plan.switches) (Port.Switch s l) = (later.0, later.2) in
      let not_first = number-decimal 1 last_link l (omega (arith, later.1)) (omega (arith, later.2)) (omega (arith, later.2)) in
      rw (port_cut s l is, port_name-is s l is, port_link-is s l is, link_good s l is, link_is s l is, not_first, port_named s l is, port_number s l is, free, hand, allowed) refl

  pub continue_step : (said : Bool) (labels : Option Shape) → excludes_groups labels ≡ false → is_by_hand plan.shape ≡ true → (done : List Port) (p : Port) (more : List Port) → done ++ p ∷ more ≡ plan.continues
      → read_plan_words (draft_with said labels (with_continues done)) true (continue_words plan p) ≡ Ok (draft_with said labels (with_continues (done ++ p ∷ [])))
  continue_step said labels allowed hand done p more is =
      let differ : AreDistinct is_port plan.continues = distinct_mapped is_port (λ q. q) plan.continues kept.continues.once in
      continue_line said labels allowed hand done p (All-here (IsLaterPort (length plan.switches)) plan.continues done p more is kept.continues.later) (fresh is_port done p more (subst (AreDistinct is_port) (sym is) differ))

  -- Deletes

  pub delete_printed : (terminal : ℕ) (d : Terminal) → terminal < length plan.terminals → terminal_name plan terminal ≡ (get_or plan.terminals terminal d).name
  delete_printed terminal d known = ap (λ found. option_map_or (λ (t : Terminal). t.name) found []) (slice_get-get_or plan.terminals terminal d known)

  pub delete_step : (said : Bool) (labels : Option Shape) (done : List ℕ) (terminal : ℕ) (more : List ℕ) → done ++ terminal ∷ more ≡ plan.deletes
      → read_plan_words (draft_with said labels (with_deletes done)) true (delete_words plan terminal) ≡ Ok (draft_with said labels (with_deletes (done ++ terminal ∷ [])))
  unfolding is_deleted terminal_number
  delete_step said labels done terminal more is =
      let d : Terminal = record { name = []; switch = 0; link = 0; first = 0; count = 0 } in
      let known : terminal < length plan.terminals = All-here (λ t. t < length plan.terminals) plan.deletes done terminal more is kept.deletes.known in
      let name : List ℕ = (get_or plan.terminals terminal d).name in
      let named : is_name name ≡ true = terminal_named terminal d known in
      let number : position (λ (t : Terminal). bytes_eq t.name name) plan.terminals ≡ Some terminal =
      position_at (λ (t u : Terminal). bytes_eq t.name u.name) (λ (t : Terminal). bytes_eq-refl t.name) plan.terminals terminal d known terminals_differ in
      let free : list_any (λ t. t == terminal) done ≡ false = fresh (λ t u. t == u) done terminal more (subst (AreDistinct (λ t u. t == u)) (sym is) kept.deletes.once) in
      rw (delete_printed terminal d known, named, number, free) refl

  -- Bases

  base_line : (said : Bool) → is_by_hand plan.shape ≡ true → (done : List PlanBase) (p : Port) (base : ℕ) → IsSwitchPort (length plan.switches) p → base < label_count → list_any (λ (b : PlanBase). is_port b.port p) done ≡ false
      → read_plan_words (draft_with said None (with_bases done)) true (base_words plan (record { port = p; base = base })) ≡ Ok (draft_with said None (with_bases (done ++ record { port = p; base = base } ∷ [])))
  unfolding is_any_at switch_number
  base_line said hand done (Port.Terminal t) base is range free = absurd is
  base_line said hand done (Port.Switch s l) base is range free =
      let base_good = number-decimal 0 0xffff base (omega arith) (omega arith) (omega arith) in
      rw (port_own s l is, port_cut s l is, port_name-is s l is, port_link-is s l is, link_good s l is, link_is s l is, base_good, value-decimal base (omega arith), port_named s l is, port_number s l is, free, hand) refl

  pub base_step : (said : Bool) → is_by_hand plan.shape ≡ true → (done : List PlanBase) (b : PlanBase) (more : List PlanBase) → done ++ b ∷ more ≡ plan.bases
      → read_plan_words (draft_with said None (with_bases done)) true (base_words plan b) ≡ Ok (draft_with said None (with_bases (done ++ b ∷ [])))
  base_step said hand done b more is =
      let same : PlanBase → PlanBase → Bool = λ (x : PlanBase) (y : PlanBase). is_port x.port y.port in
      let differ : AreDistinct same plan.bases = distinct_mapped is_port (λ (x : PlanBase). x.port) plan.bases kept.bases.once in
      base_line said hand done b.port b.base (All-here (λ (x : PlanBase). IsSwitchPort (length plan.switches) x.port) plan.bases done b more is kept.bases.of_inputs)
      (All-here (λ (x : PlanBase). x.base < label_count) plan.bases done b more is kept.bases.ranges)
      (fresh same done b more (subst (AreDistinct same) (sym is) differ))

  -- Rows

  row_line : (said : Bool) → is_by_hand plan.shape ≡ true → (done : List PlanRow) (p : Port) (limit : ℕ) (select : Select) → IsSwitchPort (length plan.switches) p → limit ≤ label_count → IsPlanSelect select → length (rows_of p done) < 36
      → read_plan_words (draft_with said None (with_rows done)) true (row_words plan (record { port = p; limit = limit; select = select })) ≡ Ok (draft_with said None (with_rows (done ++ record { port = p; limit = limit; select = select } ∷ [])))
  unfolding switch_number
  row_line said hand done (Port.Terminal t) limit select is few selectable room = absurd is
  row_line said hand done (Port.Switch s l) limit select is few selectable room =
      let limit_good = number-decimal 0 label_count limit (omega arith) few (omega arith) in
      let fits : nat_lt 36 (length (rows_of (Port.Switch s l) done) + 1) ≡ false = grind (arith, nat_tests) in
      rw (port_own s l is, port_cut s l is, port_name-is s l is, port_link-is s l is, link_good s l is, link_is s l is, limit_good, value-decimal limit (omega arith), select-good select selectable, select-is select selectable, port_named s l is, port_number s l is, fits, hand) refl

  row_room : (done : List PlanRow) (r : PlanRow) (more : List PlanRow) → done ++ r ∷ more ≡ plan.rows → length (rows_of r.port done) < 36
  unfolding rows_of
  row_room done r more is =
      let of_it : PlanRow → Bool = is_row_of r.port in
      let own : of_it r ≡ true = is_port-refl r.port in
      let parts : filter of_it plan.rows ≡ filter of_it done ++ (r ∷ filter of_it more) =
      ap (filter of_it) (sym is) ∙ filter-append of_it done (r ∷ more) ∙ (λ i. filter of_it done ++ cond (own i) (r ∷ filter of_it more) (filter of_it more)) in
      search (arith, length-append)

  pub row_step : (said : Bool) → is_by_hand plan.shape ≡ true → (done : List PlanRow) (r : PlanRow) (more : List PlanRow) → done ++ r ∷ more ≡ plan.rows
      → read_plan_words (draft_with said None (with_rows done)) true (row_words plan r) ≡ Ok (draft_with said None (with_rows (done ++ r ∷ [])))
  row_step said hand done r more is =
      let range : (r.limit ≤ label_count) × IsPlanSelect r.select = All-here (λ (x : PlanRow). (x.limit ≤ label_count) × IsPlanSelect x.select) plan.rows done r more is kept.rows.ranges in
      row_line said hand done r.port r.limit r.select (All-here (λ (x : PlanRow). IsSwitchPort (length plan.switches) x.port) plan.rows done r more is kept.rows.of_inputs) range.0 range.1 (row_room done r more is)

  -- Random headers

  random_line : (said : Bool) → is_by_hand plan.shape ≡ true → (done : List PlanRandom) (p : Port) (base range : ℕ) → IsSwitchPort (length plan.switches) p → base < label_count → range ≤ label_count → list_any (λ (r : PlanRandom). is_port r.port p) done ≡ false
      → read_plan_words (draft_with said None (with_randoms done)) true (random_words plan (record { port = p; base = base; range = range })) ≡ Ok (draft_with said None (with_randoms (done ++ record { port = p; base = base; range = range } ∷ [])))
  unfolding is_any_at switch_number
  random_line said hand done (Port.Terminal t) base range is low few free = absurd is
  random_line said hand done (Port.Switch s l) base range is low few free =
      let base_good = number-decimal 0 0xffff base (omega arith) (omega arith) (omega arith) in
      let range_good = number-decimal 0 label_count range (omega arith) few (omega arith) in
      rw (port_cut s l is, port_name-is s l is, port_link-is s l is, link_good s l is, link_is s l is, base_good, value-decimal base (omega arith), range_good, value-decimal range (omega arith), port_named s l is, port_number s l is, free, hand) refl

  pub random_step : (said : Bool) → is_by_hand plan.shape ≡ true → (done : List PlanRandom) (r : PlanRandom) (more : List PlanRandom) → done ++ r ∷ more ≡ plan.randoms
      → read_plan_words (draft_with said None (with_randoms done)) true (random_words plan r) ≡ Ok (draft_with said None (with_randoms (done ++ r ∷ [])))
  random_step said hand done r more is =
      let same : PlanRandom → PlanRandom → Bool = λ (x : PlanRandom) (y : PlanRandom). is_port x.port y.port in
      let differ : AreDistinct same plan.randoms = distinct_mapped is_port (λ (x : PlanRandom). x.port) plan.randoms kept.randoms.once in
      let range : (r.base < label_count) × (r.range ≤ label_count) = All-here (λ (x : PlanRandom). (x.base < label_count) × (x.range ≤ label_count)) plan.randoms done r more is kept.randoms.ranges in
      random_line said hand done r.port r.base r.range (All-here (λ (x : PlanRandom). IsSwitchPort (length plan.switches) x.port) plan.randoms done r more is kept.randoms.of_inputs) range.0 range.1
      (fresh same done r more (subst (AreDistinct same) (sym is) differ))
