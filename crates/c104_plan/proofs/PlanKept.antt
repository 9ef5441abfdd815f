-- What the type of a plan keeps, each addition keeps.
use Rattle.c104_plan.proofs.{Distinct.{distinct_inserted, distinct_pushed}, PortLemmas.{is_port-flips, is_port-true, once-pushed}}
use Rattle.c104_plan.specs.{Distinctness.AreDistinct, Plans.{AreBases, AreContinues, AreDeletes, AreNames, AreRandoms, AreRows}}
use Rattle.c104_plan.specs.Plans.{AreTerminals, IsLaterPort, IsOfShape, IsPlan, IsPlanSelect, IsPlanWire, IsRange, Plan, PlanBase}
use Rattle.c104_plan.specs.Plans.{PlanRandom, PlanRow, Shape, Terminal, host_port, is_buffer_size, is_continued, is_deleted, is_linked}
use Rattle.c104_plan.specs.Plans.{is_row_of, is_taken, label_count, linked_ports, most_header_bytes, most_switches, most_terminals, names}
use Rattle.c104_plan.specs.{Plans.rows_of, Ports.{IsSwitchPort, Port, Wire, both_ends, is_any_at, is_port}, TextWords.is_name}
use Rattle.{c104_plan.specs.declared.plans.Shape.TheVariants.Hand, std.proofs.Common.{All, Bool, List, [], ap, append-nil, append_assoc}}
use Rattle.std.proofs.Common.{arith, bytes_eq, cond, false, length, length-append, map, refl, subst, sym, true, ℕ, ◌++◌, ◌+◌, ◌<◌, ◌∙◌, ◌∷◌}
use Rattle.std.proofs.{Common.{◌≡◌, ◌≤◌}, lemmas.{Bool.or_from, Cmp.nat_list_eq_equiv, List.Elements.{All-cons, All-head, All-push}}}
use Rattle.std.{proofs.lemmas.List.{Elements.{All-tail, All-weaker, filter-append}, Folds.list_any-append, map-append}, specs.List.list_any}

All-inserted : {X : Type 0} (P : X → Type 0) (xs ys : List X) (x : X) → All P (xs ++ ys) → P x → All P ((xs ++ x ∷ []) ++ ys)
All-inserted P [] ys x all here = All-cons P x ys here all
All-inserted P (a ∷ xs) ys x all here = All-cons P a ((xs ++ x ∷ []) ++ ys) (All-head P a (xs ++ ys) all) (All-inserted P xs ys x (All-tail P a (xs ++ ys) all) here)

names_flip : (a b : List ℕ) → bytes_eq a b ≡ bytes_eq b a
names_flip a b = nat_list_eq_equiv.symm a b

-- Of more switches

module _ (m n : ℕ) (more : m ≤ n) where
  port_of_more : (p : Port) → IsSwitchPort m p → IsSwitchPort n p
  port_of_more p is = search arith

  later_of_more : (p : Port) → IsLaterPort m p → IsLaterPort n p
  later_of_more p is = search arith

  terminals_of_more : (terminals : List Terminal) → AreTerminals m terminals → AreTerminals n terminals
  terminals_of_more terminals are = search (arith, All-weaker, port_of_more)

  wires_of_more : (wires : List Wire) → All (IsPlanWire m) wires → All (IsPlanWire n) wires
  wires_of_more wires are = All-weaker (IsPlanWire m) (IsPlanWire n) (λ (w : Wire) is. (port_of_more w.here is.0, port_of_more w.there is.1, is.2)) wires are

  continues_of_more : (continues : List Port) → AreContinues m continues → AreContinues n continues
  continues_of_more continues are = record { later = All-weaker (IsLaterPort m) (IsLaterPort n) later_of_more continues are.later; once = are.once }

  bases_of_more : (bases : List PlanBase) → AreBases m bases → AreBases n bases
  bases_of_more bases are = search (arith, All-weaker, port_of_more)

  rows_of_more : (rows : List PlanRow) → AreRows m rows → AreRows n rows
  rows_of_more rows are = search (arith, All-weaker, port_of_more)

  randoms_of_more : (randoms : List PlanRandom) → AreRandoms m randoms → AreRandoms n randoms
  randoms_of_more randoms are = search (arith, All-weaker, port_of_more)

-- the shape of a plan that is made line by line says nothing of it
by_hand : (shape : Shape) (plan : Plan) → shape ≡ Hand → IsOfShape shape plan
by_hand shape plan hand = subst (λ s. IsOfShape s plan) (sym hand) tt

both_ends-append : (ws : List Wire) (w : Wire) → both_ends (ws ++ w ∷ []) ≡ both_ends ws ++ (w.here ∷ w.there ∷ [])
both_ends-append [] w = refl
both_ends-append (v ∷ ws) w = ap (λ ports. v.here ∷ v.there ∷ ports) (both_ends-append ws w)

module _ (plan : Plan) (kept : IsPlan plan) where
  pub with_switch : (name : List ℕ) → plan.shape ≡ Hand → is_name name ≡ true → is_taken plan name ≡ false → length plan.switches < most_switches → IsPlan (record plan { switches = plan.switches ++ name ∷ [] })
  unfolding is_taken
  with_switch name hand named free room =
      let longer : length (plan.switches ++ name ∷ []) ≡ length plan.switches + 1 = length-append plan.switches (name ∷ []) in
      let more : length plan.switches ≤ length (plan.switches ++ name ∷ []) = omega arith in
      search (
        arith,
        by_hand,
        All-inserted,
        distinct_inserted,
        bytes_eq,
        names_flip,
        terminals_of_more,
        wires_of_more,
        continues_of_more,
        bases_of_more,
        rows_of_more,
        randoms_of_more,
      )

  names-terminal : (t : Terminal) → names plan.switches (plan.terminals ++ t ∷ []) ≡ names plan.switches plan.terminals ++ t.name ∷ []
  names-terminal t = rw (map-append (λ (u : Terminal). u.name) plan.terminals (t ∷ [])) (sym (append_assoc plan.switches (map (λ (u : Terminal). u.name) plan.terminals) (t.name ∷ [])))

  names_with : (t : Terminal) → is_name t.name ≡ true → is_taken plan t.name ≡ false → AreNames (names plan.switches (plan.terminals ++ t ∷ []))
  unfolding is_taken
  names_with t named free = search (arith, names-terminal, All-push, distinct_pushed, bytes_eq)

  links_with : (t : Terminal) → is_linked plan (host_port t) ≡ false → AreDistinct is_port (linked_ports (plan.terminals ++ t ∷ []) plan.wires)
  unfolding is_linked
  links_with t free = rw (map-append host_port plan.terminals (t ∷ [])) (distinct_inserted is_port is_port-flips (map host_port plan.terminals) (both_ends plan.wires) (host_port t) free kept.links)

  pub with_terminal : (t : Terminal) → plan.shape ≡ Hand → is_name t.name ≡ true → is_taken plan t.name ≡ false → IsSwitchPort (length plan.switches) (host_port t) → is_linked plan (host_port t) ≡ false → length plan.terminals < most_terminals → IsRange t.first t.count → IsPlan (record plan { terminals = plan.terminals ++ t ∷ [] })
  with_terminal t hand named free on_switch unlinked room range =
      let longer : length (plan.terminals ++ t ∷ []) ≡ length plan.terminals + 1 = length-append plan.terminals (t ∷ []) in
      search (arith, by_hand, names_with, All-push, links_with, All-weaker)

  links_wired : (w : Wire) → is_linked plan w.here ≡ false → is_linked plan w.there ≡ false → is_port w.here w.there ≡ false → AreDistinct is_port (linked_ports plan.terminals (plan.wires ++ w ∷ []))
  unfolding is_linked
  links_wired w here_free there_free differ =
      let ports : List Port = linked_ports plan.terminals plan.wires in
      let at_here : AreDistinct is_port (ports ++ w.here ∷ []) = distinct_pushed is_port ports w.here here_free kept.links in
      let none : list_any (λ q. is_port q w.there) (ports ++ w.here ∷ []) ≡ false = list_any-append (λ q. is_port q w.there) ports (w.here ∷ []) ∙ or_from _ _ there_free (or_from _ _ differ refl) in
      let both : AreDistinct is_port ((ports ++ w.here ∷ []) ++ w.there ∷ []) = distinct_pushed is_port (ports ++ w.here ∷ []) w.there none at_here in
      search (arith, append_assoc, both_ends-append)

  pub with_wire : (w : Wire) → plan.shape ≡ Hand → IsPlanWire (length plan.switches) w → is_port w.here w.there ≡ false → is_linked plan w.here ≡ false → is_linked plan w.there ≡ false → IsPlan (record plan { wires = plan.wires ++ w ∷ [] })
  with_wire w hand is_wire differ here_free there_free = search (arith, by_hand, All-push, links_wired)

  -- what its shape says doesn't hang on its header length, its buffer size and its deletes
  of_shape : (header cap : ℕ) (deletes : List ℕ) (shape : Shape) → IsOfShape shape plan → IsOfShape shape (record plan { header = header; cap = cap; deletes = deletes })
  of_shape header cap deletes shape is = search arith

  -- the same switches, terminals and wires, and what else is said of them
  with_settings : {header cap : ℕ} {continues : List Port} {deletes : List ℕ} {bases : List PlanBase} {rows : List PlanRow} {randoms : List PlanRandom} → IsOfShape plan.shape (record plan { header = header; cap = cap; continues = continues; deletes = deletes; bases = bases; rows = rows; randoms = randoms }) → (0 < header) × (header ≤ most_header_bytes) → is_buffer_size cap ≡ true → AreContinues (length plan.switches) continues → AreDeletes (length plan.terminals) deletes → AreBases (length plan.switches) bases → AreRows (length plan.switches) rows → AreRandoms (length plan.switches) randoms → IsPlan (record plan { header = header; cap = cap; continues = continues; deletes = deletes; bases = bases; rows = rows; randoms = randoms })
  with_settings shape header cap continues deletes bases rows randoms = search arith

  pub with_continue : (p : Port) → plan.shape ≡ Hand → IsLaterPort (length plan.switches) p → is_continued plan p ≡ false → IsPlan (record plan { continues = plan.continues ++ p ∷ [] })
  with_continue p hand later once = search (arith, with_settings, by_hand, All-push, once-pushed)

  pub with_delete : (terminal : ℕ) → terminal < length plan.terminals → is_deleted plan terminal ≡ false → IsPlan (record plan { deletes = plan.deletes ++ terminal ∷ [] })
  unfolding is_deleted
  with_delete terminal known once = search (arith, with_settings, of_shape, All-push, distinct_pushed)

  pub with_base : (b : PlanBase) → plan.shape ≡ Hand → IsSwitchPort (length plan.switches) b.port → b.base < label_count → is_any_at (λ (c : PlanBase). c.port) plan.bases b.port ≡ false → IsPlan (record plan { bases = plan.bases ++ b ∷ [] })
  with_base b hand of_input range once = search (arith, with_settings, by_hand, All-push, once-pushed)

  few-row_by : (r : PlanRow) (p : Port) (same : Bool) → is_port r.port p ≡ same → length (rows_of r.port plan.rows) < 36 → length (rows_of p plan.rows ++ cond same (r ∷ []) []) ≤ 36
  few-row_by r p same is room = search (arith, is_port-true, length-append, append-nil)

  few-row : (r : PlanRow) (p : Port) → length (rows_of r.port plan.rows) < 36 → length (rows_of p (plan.rows ++ r ∷ [])) ≤ 36
  unfolding rows_of
  few-row r p room = rw (filter-append (is_row_of p) plan.rows (r ∷ [])) (few-row_by r p (is_port r.port p) refl room)

  pub with_row : (r : PlanRow) → plan.shape ≡ Hand → IsSwitchPort (length plan.switches) r.port → r.limit ≤ label_count → IsPlanSelect r.select → length (rows_of r.port plan.rows) < 36 → IsPlan (record plan { rows = plan.rows ++ r ∷ [] })
  with_row r hand of_input limit selectable room = search (arith, with_settings, by_hand, All-push, few-row)

  pub with_random : (r : PlanRandom) → plan.shape ≡ Hand → IsSwitchPort (length plan.switches) r.port → r.base < label_count → r.range ≤ label_count → is_any_at (λ (q : PlanRandom). q.port) plan.randoms r.port ≡ false → IsPlan (record plan { randoms = plan.randoms ++ r ∷ [] })
  with_random r hand of_input base range once = search (arith, with_settings, by_hand, All-push, once-pushed)

  pub with_header : (bytes : ℕ) → 0 < bytes → bytes ≤ most_header_bytes → IsPlan (record plan { header = bytes })
  with_header bytes some few = with_settings (of_shape bytes plan.cap plan.deletes plan.shape kept.shape) (some, few) kept.cap kept.continues kept.deletes kept.bases kept.rows kept.randoms

  pub with_buffer : (size : ℕ) → is_buffer_size size ≡ true → IsPlan (record plan { cap = size })
  with_buffer size is_size = with_settings (of_shape plan.header size plan.deletes plan.shape kept.shape) kept.header is_size kept.continues kept.deletes kept.bases kept.rows kept.randoms
