-- Every printed line is one of words.
use Rattle.c104_describe.proofs.{PrintedNumbers.word-decimal, PrintedParts.lines_by_kinds, PrintedPorts.{word-name, word-port, word-select}}
use Rattle.c104_describe.proofs.PrintedSteps.{delete_printed, name_of, port_named, port_printed, switch_named, terminal_named}
use Rattle.c104_describe.{proofs.PrintedText.{are_words, is_word}, specs.PlanPrint.{base_words, continue_words, counted_words}}
use Rattle.c104_describe.specs.PlanPrint.{delete_words, label_words, labelled_lines, network_lines, random_words, row_words, switch_words}
use Rattle.{c104_describe.specs.PlanPrint.{terminal_words, wire_words}, c104_plan.specs.Plans.{IsLaterPort, IsNamedIn, IsOfShape, IsPlan}}
use Rattle.c104_plan.specs.{Plans.{IsPlanSelect, IsPlanWire, IsRange, Plan, host_port, is_buffer_size, label_count}, PortTexts.port_text}
use Rattle.c104_plan.specs.{PortTexts.switch_name, Ports.IsSwitchPort, TextWords.is_name, declared.plans.PlanBase.PlanBase}
use Rattle.c104_plan.specs.declared.plans.{PlanRandom.PlanRandom, PlanRow.PlanRow, Shape.{Shape, TheVariants.{Cube, Hand, Mesh, Tree}}}
use Rattle.c104_plan.specs.declared.{plans.{Shape.TheVariants.UpDown, Terminal.Terminal}, ports.{Port.Port, Wire.Wire}}
use Rattle.std.proofs.Common.{All, List, None, Option, Some, [], ap, arith, codes, get_or, length, map, nat_le, refl, true, ℕ, ◌&&◌, ◌++◌}
use Rattle.std.proofs.{Common.{◌<◌, ◌∙◌, ◌∷◌, ◌≡◌, ◌≤◌}, lemmas.{Bool.{and_parts, leb-true}, List.Elements.{All-head, All-tail}}}
use Rattle.std.{proofs.lemmas.{List.Folds.list_all-append, Option.slice_get-get_or}, specs.{List.list_all, Option.unwrap_or}}

words_both : (xs ys : List (List (List ℕ))) → are_words xs ≡ true → are_words ys ≡ true → are_words (xs ++ ys) ≡ true
words_both xs ys a b = list_all-append (λ ws. list_all is_word ws) xs ys ∙ (λ i. a i && b i)

-- lines of one kind
words_kind : {X : Type 0} (line : X → List (List ℕ)) (P : X → Type 0) → ((x : X) → P x → list_all is_word (line x) ≡ true) → (xs : List X) → All P xs → are_words (map line xs) ≡ true
words_kind line P each [] all = refl
words_kind line P each (x ∷ xs) all = λ i. each x (All-head P x xs all) i && words_kind line P each xs (All-tail P x xs all) i

pub small_buffer : (size : ℕ) → is_buffer_size size ≡ true → size ≤ 64
small_buffer size is = leb-true _ _ (and_parts (nat_le 8 size) (nat_le size 64) (and_parts _ _ is).1).1

module _ (plan : Plan) (kept : IsPlan plan) where
  -- Every line is words

  word_at : (p : Port) → IsSwitchPort (length plan.switches) p → is_word (port_text plan p) ≡ true
  word_at (Port.Terminal t) is = absurd is
  word_at (Port.Switch s l) is = ap is_word (port_printed plan kept s l is) ∙ word-port (name_of plan kept s) l (port_named plan kept s l is) is.1

  words_switch : (name : List ℕ) → is_name name ≡ true → list_all is_word (switch_words name) ≡ true
  words_switch name is = λ i. word-name name is i && true

  abbrev IsPrinted : Terminal → Type 0
  IsPrinted t = (is_name t.name ≡ true) × IsSwitchPort (length plan.switches) (host_port t) × IsRange t.first t.count

  words_terminal : (t : Terminal) → IsPrinted t → list_all is_word (terminal_words plan t) ≡ true
  words_terminal t is =
      λ i. word-name t.name is.0 i && (word_at (host_port t) is.1 i && (word-decimal t.count (omega (arith, is.2.1)) i && (word-decimal t.first (omega (arith, is.2.1)) i && true)))

  words_counted : (t : Terminal) → IsPrinted t → list_all is_word (counted_words plan t) ≡ true
  words_counted t is = λ i. word-name t.name is.0 i && (word_at (host_port t) is.1 i && (word-decimal t.count (omega (arith, is.2.1)) i && true))

  words_wire : (w : Wire) → IsPlanWire (length plan.switches) w → list_all is_word (wire_words plan w) ≡ true
  words_wire w is = λ i. word_at w.here is.0 i && (word_at w.there is.1 i && true)

  words_continue : (p : Port) → IsLaterPort (length plan.switches) p → list_all is_word (continue_words plan p) ≡ true
  words_continue p is = search (arith, word_at)

  words_delete : (terminal : ℕ) → terminal < length plan.terminals → list_all is_word (delete_words plan terminal) ≡ true
  words_delete terminal is =
      let d : Terminal = record { name = []; switch = 0; link = 0; first = 0; count = 0 } in
      let word = ap is_word (delete_printed plan kept terminal d is) ∙ word-name (get_or plan.terminals terminal d).name (terminal_named plan kept terminal d is) in
      λ i. word i && true

  words_base : (b : PlanBase) → IsSwitchPort (length plan.switches) b.port × (b.base < label_count) → list_all is_word (base_words plan b) ≡ true
  words_base b is = λ i. word_at b.port is.0 i && (word-decimal b.base (omega (arith, is.1)) i && true)

  words_row : (r : PlanRow) → IsSwitchPort (length plan.switches) r.port × ((r.limit ≤ label_count) × IsPlanSelect r.select) → list_all is_word (row_words plan r) ≡ true
  words_row r is = λ i. word_at r.port is.0 i && (word-decimal r.limit (omega (arith, is.1.0)) i && (word-select r.select is.1.1 i && true))

  words_random : (r : PlanRandom) → IsSwitchPort (length plan.switches) r.port × ((r.base < label_count) × (r.range ≤ label_count)) → list_all is_word (random_words plan r) ≡ true
  words_random r is = λ i. word_at r.port is.0 i && (word-decimal r.base (omega (arith, is.1.0)) i && (word-decimal r.range (omega (arith, is.1.1)) i && true))

  -- a root's name
  pub root_printed : (root : ℕ) → root < length plan.switches → switch_name plan root ≡ name_of plan kept root
  root_printed root inside = ap (λ name. unwrap_or name []) (slice_get-get_or plan.switches root [] inside)

  words_label : (style : List ℕ) (root : Option ℕ) → is_word style ≡ true → IsNamedIn (length plan.switches) root → list_all is_word (label_words plan style root) ≡ true
  words_label style None word inside = λ i. word i && true
  words_label style (Some root) word inside =
      let named : is_word (switch_name plan root) ≡ true = ap is_word (root_printed root inside) ∙ word-name (name_of plan kept root) (switch_named plan kept root [] inside) in
      λ i. word i && (named i && true)

  all_printed : All IsPrinted plan.terminals
  all_printed = λ k d inside. (terminal_named plan kept k d inside, kept.terminals.on_switches k d inside, kept.terminals.ranges k d inside)

  words_labelled : (asked : List (List ℕ)) → list_all is_word asked ≡ true → are_words (labelled_lines plan asked) ≡ true
  words_labelled asked words =
      words_both (map switch_words plan.switches ++ map (counted_words plan) plan.terminals ++ map (wire_words plan) plan.wires) (asked ∷ [])
      (words_both (map switch_words plan.switches ++ map (counted_words plan) plan.terminals) (map (wire_words plan) plan.wires)
      (words_both (map switch_words plan.switches) (map (counted_words plan) plan.terminals)
      (words_kind switch_words (λ name. is_name name ≡ true) words_switch plan.switches (switch_named plan kept))
      (words_kind (counted_words plan) IsPrinted words_counted plan.terminals all_printed))
      (words_kind (wire_words plan) (IsPlanWire (length plan.switches)) words_wire plan.wires kept.wires))
      (λ i. words i && true)

  words_network : (shape : Shape) → IsOfShape shape plan → are_words (network_lines plan shape) ≡ true
  words_network Hand is =
      words_both (map switch_words plan.switches ++ map (terminal_words plan) plan.terminals) (map (wire_words plan) plan.wires)
      (words_both (map switch_words plan.switches) (map (terminal_words plan) plan.terminals)
      (words_kind switch_words (λ name. is_name name ≡ true) words_switch plan.switches (switch_named plan kept))
      (words_kind (terminal_words plan) IsPrinted words_terminal plan.terminals all_printed))
      (words_kind (wire_words plan) (IsPlanWire (length plan.switches)) words_wire plan.wires kept.wires)
  words_network (Tree root) is = words_labelled (label_words plan (codes "tree") (Some root)) (words_label (codes "tree") (Some root) refl is.inside)
  words_network (UpDown root) is = words_labelled (label_words plan (codes "up-down") root) (words_label (codes "up-down") root refl is.inside)
  words_network (Mesh w h p) is = search (arith, word-decimal)
  words_network (Cube d p) is = search (arith, word-decimal)

  pub words_plan : are_words (lines_by_kinds plan) ≡ true
  words_plan =
      let n : ℕ = length plan.switches in
      let header = word-decimal plan.header (omega (arith, kept.header.1)) in
      let cap = word-decimal plan.cap (omega (arith, small_buffer plan.cap kept.cap)) in
      let randoms = words_kind (random_words plan) (λ (r : PlanRandom). IsSwitchPort n r.port × ((r.base < label_count) × (r.range ≤ label_count))) words_random plan.randoms (λ k d inside. (kept.randoms.of_inputs k d inside, kept.randoms.ranges k d inside)) in
      let rows = words_kind (row_words plan) (λ (r : PlanRow). IsSwitchPort n r.port × ((r.limit ≤ label_count) × IsPlanSelect r.select)) words_row plan.rows (λ k d inside. (kept.rows.of_inputs k d inside, kept.rows.ranges k d inside)) in
      let bases = words_kind (base_words plan) (λ (b : PlanBase). IsSwitchPort n b.port × (b.base < label_count)) words_base plan.bases (λ k d inside. (kept.bases.of_inputs k d inside, kept.bases.ranges k d inside)) in
      let deletes = words_kind (delete_words plan) (λ t. t < length plan.terminals) words_delete plan.deletes kept.deletes.known in
      let continues = words_kind (continue_words plan) (IsLaterPort n) words_continue plan.continues kept.continues.later in
      search (arith, words_both, words_network)
