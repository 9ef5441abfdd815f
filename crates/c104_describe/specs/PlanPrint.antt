-- What a plan is printed as: lines of words. Words are parted by one space, and each line ends with a
-- line feed.
use Rattle.{c104_describe.specs.{PlanFaults.PlanFault, PlanText.read_description}, c104_plan.specs.{PlanParts.has_some, Plans.Plan}}
use Rattle.c104_plan.specs.{Plans.{host_port, is_base_of, is_row_of}, PortTexts.{port_text, select_text, switch_name, terminal_name}}
use Rattle.c104_plan.specs.{Ports.is_of_switch, TextCut.most_bytes, declared.plans.{PlanBase.PlanBase, PlanRandom.PlanRandom}}
use Rattle.c104_plan.specs.declared.plans.{PlanRow.PlanRow, Shape.{Shape, TheVariants.{Cube, Hand, Mesh, Tree, UpDown}}, Terminal.Terminal}
use Rattle.c104_plan.specs.declared.ports.{Port.Port, Wire.Wire}
use Rattle.std.specs.{Fmt.decimal, Prelude.{Bool, Err, List, None, Ok, Option, Result, Some, [], bytes_eq, codes, false, filter}}
use Rattle.std.specs.Prelude.{if◌then◌else◌, length, map, nat_le, suc, zero, ℕ, ◌&&◌, ◌++◌, ◌∷◌}

-- words with a space (0x20) between neighbours
abbrev pub sentence : List (List ℕ) → List ℕ
sentence [] = []
sentence (word ∷ []) = word
sentence (word ∷ next ∷ more) = word ++ 0x20 ∷ sentence (next ∷ more)

-- lines of words, each of which a line feed (0x0a) ends
abbrev pub text_of : List (List (List ℕ)) → List ℕ
text_of [] = []
text_of (words ∷ more) = sentence words ++ 0x0a ∷ text_of more

-- the line of the header length
abbrev pub header_words : ℕ → List (List ℕ)
header_words bytes = codes "header" ∷ decimal bytes ∷ []

-- the line of the buffer size
abbrev pub buffer_words : ℕ → List (List ℕ)
buffer_words size = codes "buffer" ∷ decimal size ∷ []

-- the line of a switch
abbrev pub switch_words : List ℕ → List (List ℕ)
switch_words name = codes "switch" ∷ name ∷ []

-- the line of a terminal
abbrev pub terminal_words : Plan → Terminal → List (List ℕ)
terminal_words plan t =
    codes "terminal" ∷ t.name ∷ port_text plan (host_port t)
    ∷ codes "labels" ∷ decimal t.count ∷ codes "from" ∷ decimal t.first ∷ []

-- the line of a terminal of which only the count is said
abbrev pub counted_words : Plan → Terminal → List (List ℕ)
counted_words plan t =
    codes "terminal" ∷ t.name ∷ port_text plan (host_port t) ∷ codes "labels" ∷ decimal t.count ∷ []

-- the line of a wire
abbrev pub wire_words : Plan → Wire → List (List ℕ)
wire_words plan w = codes "wire" ∷ port_text plan w.here ∷ port_text plan w.there ∷ []

-- the line that asks for labels by this word, from a root if one is named
abbrev pub label_words : Plan → List ℕ → Option ℕ → List (List ℕ)
label_words plan style None = codes "label" ∷ style ∷ []
label_words plan style (Some root) = codes "label" ∷ style ∷ switch_name plan root ∷ []

-- the line of a mesh
abbrev pub mesh_words : ℕ → ℕ → ℕ → List (List ℕ)
mesh_words w h p = codes "mesh" ∷ decimal w ∷ decimal h ∷ decimal p ∷ []

-- the line of a cube
abbrev pub cube_words : ℕ → ℕ → List (List ℕ)
cube_words d p = codes "cube" ∷ decimal d ∷ decimal p ∷ []

-- the line of a link that continues a group
abbrev pub continue_words : Plan → Port → List (List ℕ)
continue_words plan p = codes "continue" ∷ port_text plan p ∷ []

-- the line of a terminal on the way to which headers are deleted
abbrev pub delete_words : Plan → ℕ → List (List ℕ)
delete_words plan terminal = codes "delete" ∷ terminal_name plan terminal ∷ []

-- the line of a base
abbrev pub base_words : Plan → PlanBase → List (List ℕ)
base_words plan b = codes "base" ∷ port_text plan b.port ∷ decimal b.base ∷ []

-- the line of a row
abbrev pub row_words : Plan → PlanRow → List (List ℕ)
row_words plan r = codes "row" ∷ port_text plan r.port ∷ decimal r.limit ∷ select_text r.select ∷ []

-- the line of an input's random headers
abbrev pub random_words : Plan → PlanRandom → List (List ℕ)
random_words plan r = codes "random" ∷ port_text plan r.port ∷ decimal r.base ∷ decimal r.range ∷ []

-- the lines of a network for which labels are asked by a line
abbrev pub labelled_lines : Plan → List (List ℕ) → List (List (List ℕ))
labelled_lines plan asked =
    map switch_words plan.switches ++ map (counted_words plan) plan.terminals ++ map (wire_words plan) plan.wires ++ asked ∷ []

-- the lines of a network by its plan's shape, each kind in the order of its list, and what a name stands for
-- before what names it. What a labeller gives isn't said, and of a mesh and a cube nothing but its sizes
abbrev pub network_lines : Plan → Shape → List (List (List ℕ))
network_lines plan Hand = map switch_words plan.switches ++ map (terminal_words plan) plan.terminals ++ map (wire_words plan) plan.wires
network_lines plan (Tree root) = labelled_lines plan (label_words plan (codes "tree") (Some root))
network_lines plan (UpDown root) = labelled_lines plan (label_words plan (codes "up-down") root)
network_lines plan (Mesh w h p) = mesh_words w h p ∷ []
network_lines plan (Cube d p) = cube_words d p ∷ []

-- the lines of a plan
abbrev pub plan_lines : Plan → List (List (List ℕ))
plan_lines plan =
    header_words plan.header
    ∷ buffer_words plan.cap
    ∷ network_lines plan plan.shape
    ++ map (continue_words plan) plan.continues
    ++ map (delete_words plan) plan.deletes
    ++ map (base_words plan) plan.bases
    ++ map (row_words plan) plan.rows
    ++ map (random_words plan) plan.randoms

-- the text of a plan line by line
abbrev pub own_text : Plan → List ℕ
own_text plan = text_of (plan_lines plan)

-- Tables of switches

-- the line of the base of a switch's table
abbrev pub shared_base_words : Plan → ℕ → PlanBase → List (List ℕ)
shared_base_words plan switch b = codes "base" ∷ switch_name plan switch ∷ decimal b.base ∷ []

-- the line of a row of a switch's table
abbrev pub shared_row_words : Plan → ℕ → PlanRow → List (List ℕ)
shared_row_words plan switch r = codes "row" ∷ switch_name plan switch ∷ decimal r.limit ∷ select_text r.select ∷ []

-- the lines of a switch whose table is that of this input, if there is one
abbrev pub table_lines : Plan → ℕ → Option Port → List (List (List ℕ))
table_lines plan switch None = []
table_lines plan switch (Some p) =
    map (shared_base_words plan switch) (filter (is_base_of p) plan.bases) ++ map (shared_row_words plan switch) (filter (is_row_of p) plan.rows)

-- the input of the first row of a switch
abbrev pub first_input : ℕ → List PlanRow → Option Port
first_input switch [] = None
first_input switch (r ∷ rows) = if is_of_switch switch r.port then Some r.port else first_input switch rows

-- the lines of the first n switches, as if all inputs of each had the table of one
abbrev pub tables_lines : Plan → ℕ → List (List (List ℕ))
tables_lines plan zero = []
tables_lines plan (suc s) = tables_lines plan s ++ table_lines plan s (first_input s plan.rows)

-- the lines of a plan of which each switch has one table
abbrev pub shared_lines : Plan → List (List (List ℕ))
shared_lines plan =
    ((((header_words plan.header ∷ buffer_words plan.cap ∷ [])
    ++ network_lines plan plan.shape)
    ++ map (continue_words plan) plan.continues)
    ++ map (delete_words plan) plan.deletes)
    ++ map (random_words plan) plan.randoms

-- its text
abbrev pub shared_text : Plan → List ℕ
shared_text plan = text_of (shared_lines plan ++ tables_lines plan (length plan.switches))

-- whether the plan that was read has this text line by line: so it is the plan that has it
abbrev pub has_text : List ℕ → Result Plan PlanFault → Bool
has_text text (Ok plan) = bytes_eq (own_text plan) text
has_text text (Err fault) = false

-- whether each switch has one table: then the plan is read from a text with the lines of these
unfoldable pub has_shared_tables : Plan → Bool
has_shared_tables plan =
    (has_some plan.rows && nat_le (length (own_text plan)) most_bytes)
    && has_text (own_text plan) (read_description (shared_text plan))

-- the text of a plan
abbrev pub plan_text : Plan → List ℕ
plan_text plan = if has_shared_tables plan then shared_text plan else own_text plan
