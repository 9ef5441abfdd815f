-- The grammar of a description: what a line says, after the lines before it, in a row of the format's table for each
-- word with which lines begin. What is wrong with a line and what it adds are said of the row's parts.
pub use Rattle.c104_describe.specs.PlanDrafts.{Draft}
use Rattle.c104_describe.specs.{PlanDrafts.is_mixed, PlanFaults.PlanFaultKind, PlanWords.{Keyword, keyword_of, range_words}}
use Rattle.c104_describe.specs.{ShapeLayouts.{clos, hosted_plan, parallel, torus}, SharedTables.{SharedBase, SharedRow, has_shared_base}}
use Rattle.{c104_describe.specs.SharedTables.shared_row_count, c104_interval.specs.declared.intervals.Select.{Select, TheVariants.Discard}}
use Rattle.{c104_interval.specs.declared.intervals.{Select.TheVariants.{Link, Sink}, TheConstants.ROWS}, c104_plan.specs.Layouts.Layout}
use Rattle.c104_plan.specs.{Layouts.{cube, filled_switches, filled_terminals, filled_wires, mesh}, Plans.{Plan, is_buffer_size}}
use Rattle.c104_plan.specs.Plans.{is_continued, is_deleted, label_count, last_link, most_header_bytes, most_switches, most_terminals}
use Rattle.c104_plan.specs.{Plans.{next_first, rows_of, switch_number, terminal_number}, Ports.is_any_at, TextWords.{dots, read_number}}
use Rattle.c104_plan.specs.declared.plans.{PlanBase.PlanBase, PlanRandom.PlanRandom, PlanRow.PlanRow, Shape.{Shape, TheVariants.Cube}}
use Rattle.c104_plan.specs.declared.{plans.Shape.TheVariants.{Mesh, Tree, UpDown}, ports.{Port.Port, Wire.Wire}, text.Dots.Dots}
use Rattle.{c104_plan.specs.declared.text.Dots.TheVariants.{At, Several, Without}, c104_regs.specs.declared.registers.TheConstants.LINKS}
use Rattle.std.specs.{Option.{option_map_or, unwrap_or}, Prelude.{Bool, Err, List, None, Ok, Option, Result, Some, [], bytes_eq, codes}}
use Rattle.std.specs.Prelude.{drop, false, if◌then◌else◌, is_some, length, nat_le, not, take, true, ℕ, ◌&&◌, ◌*◌, ◌++◌, ◌+◌, ◌^◌, ◌||◌, ◌∷◌}

-- What words say

-- what stands before and behind a word's one dot; all stands before it where it hasn't one
abbrev pub sides_at : List ℕ → Dots → List ℕ × List ℕ
sides_at word Without = (word, [])
sides_at word (At at) = (take at word, drop (at + 1) word)
sides_at word Several = (word, [])

-- whether there is one dot, as in a port
abbrev pub is_one_dot : Dots → Bool
is_one_dot Without = false
is_one_dot (At at) = true
is_one_dot Several = false

-- what stands for the name of a port's switch
abbrev pub port_name : List ℕ → List ℕ
port_name word = (sides_at word (dots word)).0

-- what stands for the number of a port's link
abbrev pub port_link : List ℕ → List ℕ
port_link word = (sides_at word (dots word)).1

-- what a number says, or what is meant where it is left out; 0 stands for a word that is no number, a
-- fault by itself
abbrev pub number_said : ℕ → Option (List ℕ) → ℕ
number_said other None = other
number_said other (Some word) = unwrap_or (read_number word) 0

-- what a number says
abbrev pub value_said : List ℕ → ℕ
value_said word = number_said 0 (Some word)

-- whether a word is no number or one that may not be, where there is such a word
abbrev pub is_bad_number : Option (List ℕ) → (ℕ → Bool) → Bool
is_bad_number None test = false
is_bad_number (Some word) test = not (option_map_or test (read_number word) false)

-- the switch that a word names; 0 stands for a word that names none, a fault by itself
abbrev pub switch_said : Plan → List ℕ → ℕ
switch_said plan name = unwrap_or (switch_number plan name) 0

-- the port that a word names, likewise
abbrev pub port_said : Plan → List ℕ → Port
port_said plan word = Port.Switch (switch_said plan (port_name word)) (value_said (port_link word))

-- whether a word names a port with this property, of a switch that there is
abbrev pub names_port : Plan → (Port → Bool) → List ℕ → Bool
names_port plan test word =
    option_map_or (λ switch. test (Port.Switch switch (value_said (port_link word)))) (switch_number plan (port_name word)) false

-- how many rows the input has that a word names
abbrev pub row_count : Plan → List ℕ → ℕ
row_count plan word =
    option_map_or (λ switch. length (rows_of (Port.Switch switch (value_said (port_link word))) plan.rows))
    (switch_number plan (port_name word)) 0

-- what a row selects: a link of the switch, `discard` or `sink`
abbrev pub select_said : List ℕ → Select
select_said word =
    if bytes_eq word (codes "sink") then Sink
    else (if bytes_eq word (codes "discard") then Discard
    else Link (value_said word))

-- the word for a number in the place of a row's select: none where that is `sink` or `discard`
abbrev pub selected_link : List ℕ → Option (List ℕ)
selected_link word = if bytes_eq word (codes "sink") || bytes_eq word (codes "discard") then None else Some word

-- labels may be asked for by this word
abbrev pub is_labeller : List ℕ → Bool
is_labeller style = bytes_eq style (codes "tree") || bytes_eq style (codes "up-down")

-- the shape that is asked for by such a word, with this root
abbrev pub labelled_shape : List ℕ → ℕ → Shape
labelled_shape style root = if bytes_eq style (codes "tree") then Tree root else UpDown (Some root)

-- whether a number lies between two others, both included
abbrev pub is_from_to : ℕ → ℕ → ℕ → Bool
is_from_to least most value = nat_le least value && nat_le value most

-- The table

-- what a line says, in a row of the format's table
pub record LineParts : Type 0 where
  -- whether its first word is one with which lines begin
  pub is_known : Bool
  -- whether no byte of it is one that no line may have
  pub is_plain : Bool
  -- whether it has as many words as it has to, and the fixed words among them
  pub is_shaped : Bool
  -- the words that stand for ports; each names a switch, and a link by a number up to 31
  pub ports : List (List ℕ)
  -- the other numbers, with the test of each; none where it is left out
  pub numbers : List (Option (List ℕ) × (ℕ → Bool))
  -- the names that it defines
  pub defined : List (List ℕ)
  -- the names that are to be switches'
  pub switches : List (List ℕ)
  -- the names that are to be terminals'
  pub terminals : List (List ℕ)
  -- the ports that are to be of two switches
  pub joined : List (List ℕ × List ℕ)
  -- the ports that it gives a terminal or a wire
  pub linked : List (List ℕ)
  -- how many there are then of what it adds to, and the most that there may be
  pub counts : List (ℕ × ℕ)
  -- whether a line before has said what may be said once
  pub is_said : Bool
  -- whether it doesn't go with the lines before
  pub is_mixed : Bool
  -- the draft after it, where nothing of this is wrong
  pub next : Draft

-- a line that says nothing, behind which the draft is this one
abbrev pub no_parts : Draft → LineParts
no_parts next = record {
  is_known = true;
  is_plain = true;
  is_shaped = true;
  ports = [];
  numbers = [];
  defined = [];
  switches = [];
  terminals = [];
  joined = [];
  linked = [];
  counts = [];
  is_said = false;
  is_mixed = false;
  next = next;
}

-- the draft with this plan
abbrev pub with_plan : Draft → Plan → Draft
with_plan draft plan = record draft { plan = plan }

-- the plan with the switches, terminals and wires of a layout
abbrev pub filled_plan : Shape → Layout → ℕ → Plan → Plan
filled_plan shape layout p plan = record plan {
  shape = shape;
  switches = filled_switches layout;
  terminals = filled_terminals layout p;
  wires = filled_wires layout;
}

-- `terminal N S.l`, with `labels n` and `from f` where these are said: else it has one label, and its range begins
-- where that of the terminal before ended
abbrev pub terminal_parts : Draft → List ℕ → List ℕ → Result (Option (List ℕ) × Option (List ℕ)) PlanFaultKind → LineParts
terminal_parts draft name at (Ok range) =
    let plan = draft.plan in
    let first = number_said (next_first plan.terminals) range.1 in
    let count = number_said 1 range.0 in
    record (no_parts (record draft {
      plan = record plan {
        terminals = plan.terminals ++ record {
          name = name;
          switch = switch_said plan (port_name at);
          link = value_said (port_link at);
          first = first;
          count = count;
        } ∷ [];
      };
      from_said = draft.from_said || is_some range.1;
    })) {
      ports = at ∷ [];
      numbers = (range.0, is_from_to 1 label_count) ∷ (range.1, is_from_to 0 0xffff) ∷ [];
      defined = name ∷ [];
      linked = at ∷ [];
      counts = (length plan.terminals + 1, most_terminals) ∷ (first + count, label_count) ∷ [];
    }
terminal_parts draft name at (Err kind) = record (no_parts draft) { is_shaped = false }

-- `torus w h p k`: all of a torus of w columns and h rows, with p terminals at each switch, and twice k wires to each
-- neighbour. It is to be labelled up and down from its first switch.
abbrev pub torus_parts : Draft → List ℕ → List ℕ → List ℕ → List ℕ → LineParts
torus_parts draft width height terminals wires =
    let w = value_said width in
    let h = value_said height in
    let p = value_said terminals in
    let k = value_said wires in
    record (no_parts (with_plan draft (hosted_plan (parallel (2 * k) (torus w h)) (w * h) (4 * (2 * k)) p draft.plan))) {
      numbers = (Some width, is_from_to 1 64) ∷ (Some height, is_from_to 1 64) ∷ (Some terminals, is_from_to 1 24) ∷ (Some wires, is_from_to 1 3) ∷ [];
      counts = (w * h, most_switches) ∷ (w * h * p, most_terminals) ∷ (4 * (2 * k) + p, LINKS) ∷ [];
    }

-- `clos m n p k`: all of a folded Clos network of m leaves, with p terminals at each, and n spines, with k wires from each
-- leaf to each spine. It is to be labelled up and down from its first leaf.
abbrev pub clos_parts : Draft → List ℕ → List ℕ → List ℕ → List ℕ → LineParts
clos_parts draft leaves spines terminals wires =
    let m = value_said leaves in
    let n = value_said spines in
    let p = value_said terminals in
    let k = value_said wires in
    record (no_parts (with_plan draft (hosted_plan (parallel k (clos m n)) m (n * k) p draft.plan))) {
      numbers = (Some leaves, is_from_to 1 32) ∷ (Some spines, is_from_to 1 31) ∷ (Some terminals, is_from_to 1 31) ∷ (Some wires, is_from_to 1 31) ∷ [];
      counts = (m * p, most_terminals) ∷ (n * k + p, LINKS) ∷ (m * k, LINKS) ∷ [];
    }

-- whether a word has no dot: where a port may stand, it names a switch and no link of it
abbrev pub names_switch : Dots → Bool
names_switch Without = true
names_switch (At at) = false
names_switch Several = false

-- `base S.l n`: the first label that the rows of that input cover
abbrev pub own_base_parts : Draft → List ℕ → List ℕ → LineParts
own_base_parts draft at base =
    let plan = draft.plan in
    let first : PlanBase = record { port = port_said plan at; base = value_said base } in
    record (no_parts (with_plan draft (record plan { bases = plan.bases ++ first ∷ [] }))) {
      ports = at ∷ [];
      numbers = (Some base, is_from_to 0 0xffff) ∷ [];
      is_said = names_port plan (is_any_at (λ (b : PlanBase). b.port) plan.bases) at;
    }

-- `base S n`: the same of the table of that switch
abbrev pub shared_base_parts : Draft → List ℕ → List ℕ → LineParts
shared_base_parts draft name base =
    let first : SharedBase = record { switch = switch_said draft.plan name; base = value_said base } in
    record (no_parts (record draft { shared = record (draft.shared) { bases = draft.shared.bases ++ first ∷ [] } })) {
      numbers = (Some base, is_from_to 0 0xffff) ∷ [];
      switches = name ∷ [];
      is_said = option_map_or (has_shared_base draft.shared.bases) (switch_number draft.plan name) false;
    }

-- the one or the other, by whether the word names a switch alone
abbrev pub base_parts : Draft → List ℕ → List ℕ → Bool → LineParts
base_parts draft at base is_shared = if is_shared then shared_base_parts draft at base else own_base_parts draft at base

-- `row S.l limit select`: the next row of that input
abbrev pub own_row_parts : Draft → List ℕ → List ℕ → List ℕ → LineParts
own_row_parts draft at limit select =
    let plan = draft.plan in
    let row : PlanRow = record { port = port_said plan at; limit = value_said limit; select = select_said select } in
    record (no_parts (with_plan draft (record plan { rows = plan.rows ++ row ∷ [] }))) {
      ports = at ∷ [];
      numbers = (Some limit, is_from_to 0 label_count) ∷ (selected_link select, is_from_to 0 last_link) ∷ [];
      counts = (row_count plan at + 1, ROWS) ∷ [];
    }

-- `row S limit select`: the next row of the table of that switch
abbrev pub shared_row_parts : Draft → List ℕ → List ℕ → List ℕ → LineParts
shared_row_parts draft name limit select =
    let row : SharedRow = record { switch = switch_said draft.plan name; limit = value_said limit; select = select_said select } in
    record (no_parts (record draft { shared = record (draft.shared) { rows = draft.shared.rows ++ row ∷ [] } })) {
      numbers = (Some limit, is_from_to 0 label_count) ∷ (selected_link select, is_from_to 0 last_link) ∷ [];
      switches = name ∷ [];
      counts = (option_map_or (shared_row_count draft.shared.rows) (switch_number draft.plan name) 0 + 1, ROWS) ∷ [];
    }

-- the one or the other
abbrev pub row_parts : Draft → List ℕ → List ℕ → List ℕ → Bool → LineParts
row_parts draft at limit select is_shared =
    if is_shared then shared_row_parts draft at limit select else own_row_parts draft at limit select

-- a line's parts, by what its first word says and the words after it
abbrev pub keyword_parts : Draft → Keyword → List (List ℕ) → LineParts
-- `switch N`
keyword_parts draft Keyword.Switch (name ∷ []) =
    record (no_parts (with_plan draft (record (draft.plan) { switches = draft.plan.switches ++ name ∷ [] }))) {
      defined = name ∷ [];
      counts = (length draft.plan.switches + 1, most_switches) ∷ [];
    }
keyword_parts draft Keyword.Terminal (name ∷ at ∷ rest) = terminal_parts draft name at (range_words rest)
-- `wire S.l S.l`: it joins links of two switches
keyword_parts draft Keyword.Wire (here ∷ there ∷ []) =
    let plan = draft.plan in
    let wire : Wire = record { here = port_said plan here; there = port_said plan there } in
    record (no_parts (with_plan draft (record plan { wires = plan.wires ++ wire ∷ [] }))) {
      ports = here ∷ there ∷ [];
      joined = (here, there) ∷ [];
      linked = here ∷ there ∷ [];
    }
-- `header n`: the length of headers
keyword_parts draft Keyword.Header (bytes ∷ []) =
    record (no_parts (record draft { plan = record (draft.plan) { header = value_said bytes }; header_said = true })) {
      numbers = (Some bytes, is_from_to 1 most_header_bytes) ∷ [];
      is_said = draft.header_said;
    }
-- `buffer n`: the size of all buffers
keyword_parts draft Keyword.Buffer (size ∷ []) =
    record (no_parts (record draft { plan = record (draft.plan) { cap = value_said size }; buffer_said = true })) {
      numbers = (Some size, is_buffer_size) ∷ [];
      is_said = draft.buffer_said;
    }
-- `continue S.l`: the link, which isn't the first, continues the group of the link before it
keyword_parts draft Keyword.Continue (at ∷ []) =
    let plan = draft.plan in
    record (no_parts (with_plan draft (record plan { continues = plan.continues ++ port_said plan at ∷ [] }))) {
      ports = at ∷ [];
      numbers = (Some (port_link at), is_from_to 1 last_link) ∷ [];
      is_said = names_port plan (is_continued plan) at;
    }
-- `delete T`: headers are deleted at the switch's link to that terminal
keyword_parts draft Keyword.Delete (name ∷ []) =
    let plan = draft.plan in
    let terminal = unwrap_or (terminal_number plan name) 0 in
    record (no_parts (with_plan draft (record plan { deletes = plan.deletes ++ terminal ∷ [] }))) {
      terminals = name ∷ [];
      is_said = option_map_or (is_deleted plan) (terminal_number plan name) false;
    }
-- `base S.l n` and `base S n`
keyword_parts draft Keyword.Base (at ∷ base ∷ []) = base_parts draft at base (names_switch (dots at))
-- `row S.l limit select` and `row S limit select`
keyword_parts draft Keyword.Row (at ∷ limit ∷ select ∷ []) = row_parts draft at limit select (names_switch (dots at))
-- `random S.l base range`: packets that come in at that input get a random header, one of these
keyword_parts draft Keyword.Random (at ∷ base ∷ range ∷ []) =
    let plan = draft.plan in
    let random : PlanRandom = record { port = port_said plan at; base = value_said base; range = value_said range } in
    record (no_parts (with_plan draft (record plan { randoms = plan.randoms ++ random ∷ [] }))) {
      ports = at ∷ [];
      numbers = (Some base, is_from_to 0 0xffff) ∷ (Some range, is_from_to 0 label_count) ∷ [];
      is_said = names_port plan (is_any_at (λ (r : PlanRandom). r.port) plan.randoms) at;
    }
-- `label tree S` and `label up-down S`: labels are to be those of a tree from a switch on, the root, or up and down from it
keyword_parts draft Keyword.Label (style ∷ name ∷ []) =
    record (no_parts (record draft { labels = Some (labelled_shape style (switch_said draft.plan name)) })) {
      is_shaped = is_labeller style;
      switches = name ∷ [];
      is_said = is_some draft.labels;
    }
-- `label up-down`: labels are to be up and down from a root that is found with them
keyword_parts draft Keyword.Label (style ∷ []) =
    record (no_parts (record draft { labels = Some (UpDown None) })) {
      is_shaped = bytes_eq style (codes "up-down");
      is_said = is_some draft.labels;
    }
-- `mesh w h p`: all of a mesh of w columns and h rows, with p terminals at each switch
keyword_parts draft Keyword.Mesh (width ∷ height ∷ terminals ∷ []) =
    let w = value_said width in
    let h = value_said height in
    let p = value_said terminals in
    record (no_parts (with_plan draft (filled_plan (Mesh w h p) (mesh w h) p draft.plan))) {
      numbers = (Some width, is_from_to 1 64) ∷ (Some height, is_from_to 1 64) ∷ (Some terminals, is_from_to 1 28) ∷ [];
      counts = (w * h, most_switches) ∷ (w * h * p, most_terminals) ∷ [];
    }
-- `cube d p`: all of a cube of d dimensions, with p terminals at each switch
keyword_parts draft Keyword.Cube (dimensions ∷ terminals ∷ []) =
    let d = value_said dimensions in
    let p = value_said terminals in
    record (no_parts (with_plan draft (filled_plan (Cube d p) (cube d) p draft.plan))) {
      numbers = (Some dimensions, is_from_to 0 6) ∷ (Some terminals, is_from_to 1 26) ∷ [];
      counts = (2 ^ d * p, most_terminals) ∷ [];
    }
-- the same with k wires to each neighbour, to be labelled up and down from its first switch
keyword_parts draft Keyword.Mesh (width ∷ height ∷ terminals ∷ wires ∷ []) =
    let w = value_said width in
    let h = value_said height in
    let p = value_said terminals in
    let k = value_said wires in
    record (no_parts (with_plan draft (hosted_plan (parallel k (mesh w h)) (w * h) (4 * k) p draft.plan))) {
      numbers = (Some width, is_from_to 1 64) ∷ (Some height, is_from_to 1 64) ∷ (Some terminals, is_from_to 1 28) ∷ (Some wires, is_from_to 2 7) ∷ [];
      counts = (w * h, most_switches) ∷ (w * h * p, most_terminals) ∷ (4 * k + p, LINKS) ∷ [];
    }
keyword_parts draft Keyword.Cube (dimensions ∷ terminals ∷ wires ∷ []) =
    let d = value_said dimensions in
    let p = value_said terminals in
    let k = value_said wires in
    record (no_parts (with_plan draft (hosted_plan (parallel k (cube d)) (2 ^ d) (d * k) p draft.plan))) {
      numbers = (Some dimensions, is_from_to 0 6) ∷ (Some terminals, is_from_to 1 26) ∷ (Some wires, is_from_to 2 31) ∷ [];
      counts = (2 ^ d * p, most_terminals) ∷ (d * k + p, LINKS) ∷ [];
    }
-- `torus w h p` and `clos m n p`, where k is 1 if it isn't said
keyword_parts draft Keyword.Torus (width ∷ height ∷ terminals ∷ []) = torus_parts draft width height terminals (codes "1")
keyword_parts draft Keyword.Torus (width ∷ height ∷ terminals ∷ wires ∷ []) = torus_parts draft width height terminals wires
keyword_parts draft Keyword.Clos (leaves ∷ spines ∷ terminals ∷ []) = clos_parts draft leaves spines terminals (codes "1")
keyword_parts draft Keyword.Clos (leaves ∷ spines ∷ terminals ∷ wires ∷ []) = clos_parts draft leaves spines terminals wires
keyword_parts draft keyword rest = record (no_parts draft) { is_shaped = false }

-- the same by the first word, if it is one with which lines begin
abbrev pub first_word_parts : Draft → Option Keyword → List (List ℕ) → LineParts
first_word_parts draft None rest = record (no_parts draft) { is_known = false }
first_word_parts draft (Some keyword) rest =
    record (keyword_parts draft keyword rest) { is_known = true; is_mixed = is_mixed draft keyword rest }

-- a line's parts, by its words; is_plain says that it has no byte that no line may have
abbrev pub line_parts : Draft → Bool → List (List ℕ) → LineParts
line_parts draft is_plain [] = no_parts draft
line_parts draft is_plain (first ∷ rest) = record (first_word_parts draft (keyword_of first) rest) { is_plain = is_plain }
