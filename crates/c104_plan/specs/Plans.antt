-- Plans: a network as it is planned. What the type of a plan keeps is said list by list.
pub use Rattle.c104_plan.specs.declared.plans.{PlanBase.PlanBase, PlanRandom.PlanRandom, PlanRow.PlanRow, Shape.Shape, Terminal.Terminal}
use Rattle.c104_interval.specs.declared.intervals.{Select.{Select, TheVariants.{Discard, Link, Sink}}, TheConstants.ROWS}
use Rattle.c104_plan.specs.{Distinctness.AreDistinct, Layouts.{IsCube, IsMesh, Layout, cube, filled_switches, filled_terminals}}
use Rattle.c104_plan.specs.{Layouts.{filled_wires, mesh}, Ports.{AreApart, AreOncePerPort, IsSwitchPort, Port, Wire, both_ends, is_any_at}}
use Rattle.c104_plan.specs.{Ports.is_port, TextWords.is_name, declared.limits.TheConstants.{LABELS, MAX_HEADER_BYTES, MAX_SWITCHES}}
use Rattle.c104_plan.specs.declared.{limits.TheConstants.MAX_TERMINALS, plans.Shape.TheVariants.{Cube, Hand, Mesh, Tree, UpDown}}
use Rattle.c104_regs.specs.declared.registers.TheConstants.{LINKS}
use Rattle.std.specs.{List.list_any, Prelude.{All, Bool, IsTrue, List, None, Option, Some, [], bytes_eq, false, filter, if◌then◌else◌}}
use Rattle.std.specs.Prelude.{length, map, nat_le, nat_lt, position, slice_get, ℕ, ◌%◌, ◌&&◌, ◌++◌, ◌+◌, ◌-◌, ◌<◌, ◌==◌, ◌∷◌, ◌≡◌, ◌≤◌}
use Rattle.c104_plan.specs.declared.ports.Port.TheVariants as port

-- how many bytes the headers have at wired links, the buffer size of all switches and terminals, the
-- shape, and lists, each in the order in which its items were given. A switch is its name. The wires join
-- switches. The continues are ports whose link continues the group of the link before it, and the
-- deletes are terminals, by number, on the way to which headers are deleted.
pub record Plan : Type 0 where
  pub header : ℕ
  pub cap : ℕ
  pub shape : Shape
  pub switches : List (List ℕ)
  pub terminals : List Terminal
  pub wires : List Wire
  pub continues : List Port
  pub deletes : List ℕ
  pub bases : List PlanBase
  pub rows : List PlanRow
  pub randoms : List PlanRandom

-- the number of the switch of this name
unfoldable pub switch_number : Plan → List ℕ → Option ℕ
switch_number plan name = position (λ switch. bytes_eq switch name) plan.switches

-- the number of the terminal of this name
unfoldable pub terminal_number : Plan → List ℕ → Option ℕ
terminal_number plan name = position (λ (t : Terminal). bytes_eq t.name name) plan.terminals

-- the names of all switches and terminals, which share one name space
abbrev pub names : List (List ℕ) → List Terminal → List (List ℕ)
names switches terminals = switches ++ map (λ (t : Terminal). t.name) terminals

-- whether a switch or a terminal has this name
unfoldable pub is_taken : Plan → List ℕ → Bool
is_taken plan name = list_any (λ other. bytes_eq other name) (names plan.switches plan.terminals)

-- the port of a switch that a terminal is on
abbrev pub host_port : Terminal → Port
host_port t = port.Switch t.switch t.link

-- the links of switches that have a terminal or a wire: those of terminals, and the ends of wires
abbrev pub linked_ports : List Terminal → List Wire → List Port
linked_ports terminals wires = map host_port terminals ++ both_ends wires

-- whether a port of a switch has a terminal or a wire
unfoldable pub is_linked : Plan → Port → Bool
is_linked plan p = list_any (λ q. is_port q p) (linked_ports plan.terminals plan.wires)

-- whether a link continues the group of the link before it
abbrev pub is_continued : Plan → Port → Bool
is_continued plan p = is_any_at (λ q. q) plan.continues p

-- whether a terminal is among the deletes
unfoldable pub is_deleted : Plan → ℕ → Bool
is_deleted plan terminal = list_any (λ t. t == terminal) plan.deletes

-- whether there is a terminal, and it is on this link of a switch
abbrev pub is_on : Port → Option Terminal → Bool
is_on p None = false
is_on p (Some t) = is_port (host_port t) p

-- whether some terminal of the deletes is on this link of a switch
unfoldable pub deletes_at : Plan → Port → Bool
deletes_at plan p = list_any (λ terminal. is_on p (slice_get plan.terminals terminal)) plan.deletes

-- whether a base is of this input
abbrev pub is_base_of : Port → PlanBase → Bool
is_base_of p base = is_port base.port p

-- whether a row is of this input
abbrev pub is_row_of : Port → PlanRow → Bool
is_row_of p row = is_port row.port p

-- the rows of an input, in order
unfoldable pub rows_of : Port → List PlanRow → List PlanRow
rows_of p rows = filter (is_row_of p) rows

-- where the range of the next terminal begins, if its line doesn't say: where that of the last one ends
abbrev pub next_first : List Terminal → ℕ
next_first [] = 0
next_first (t ∷ []) = t.first + t.count
next_first (t ∷ u ∷ terminals) = next_first (u ∷ terminals)

-- how many switches a plan may have
abbrev pub most_switches : ℕ
most_switches = MAX_SWITCHES

-- how many terminals a plan may have
abbrev pub most_terminals : ℕ
most_terminals = MAX_TERMINALS

-- how many bytes a header may have
abbrev pub most_header_bytes : ℕ
most_header_bytes = MAX_HEADER_BYTES

-- how many labels there are: a header has at most two bytes
abbrev pub label_count : ℕ
label_count = LABELS

-- how many values a header of this many bytes has
abbrev pub header_values : ℕ → ℕ
header_values header = if nat_lt 1 header then LABELS else 256

-- the last link of a switch
abbrev pub last_link : ℕ
last_link = LINKS - 1

-- whether a buffer may have room for n tokens: 8, 16, .. 64
abbrev pub is_buffer_size : ℕ → Bool
is_buffer_size n = (n % 8 == 0) && (nat_le 8 n && nat_le n 64)

-- a row may select a link of the switch, or discard the header, or drop the packet
abbrev pub IsPlanSelect : Select → Type 0
IsPlanSelect (Link link) = link < LINKS
IsPlanSelect Discard = Unit {0}
IsPlanSelect Sink = Unit {0}

-- a range of labels, by its first and how many they are
abbrev pub IsRange : ℕ → ℕ → Type 0
IsRange first count = (0 < count) × (first + count ≤ label_count)

-- names, of which no two are the same
pub record AreNames (names : List (List ℕ)) : Type 0 where
  pub named : All (λ name. IsTrue (is_name name)) names
  pub differ : AreDistinct bytes_eq names

-- terminals of a network of a given number of switches
pub record AreTerminals (switches : ℕ) (terminals : List Terminal) : Type 0 where
  pub few : length terminals ≤ most_terminals
  pub on_switches : All (λ (t : Terminal). IsSwitchPort switches (host_port t)) terminals
  pub ranges : All (λ (t : Terminal). IsRange t.first t.count) terminals

-- a wire between links of two of a given number of switches
abbrev pub IsPlanWire : ℕ → Wire → Type 0
IsPlanWire switches w =
    IsSwitchPort switches w.here × IsSwitchPort switches w.there × AreApart w.here w.there

-- a link of one of a given number of switches, and not its first
abbrev pub IsLaterPort : ℕ → Port → Type 0
IsLaterPort switches (port.Switch s l) = (s < switches) × (0 < l) × (l < LINKS)
IsLaterPort switches (port.Terminal t) = ⊥

-- links that continue groups
pub record AreContinues (switches : ℕ) (continues : List Port) : Type 0 where
  pub later : All (IsLaterPort switches) continues
  pub once : AreOncePerPort (λ p. p) continues

-- some of a given number of terminals
pub record AreDeletes (terminals : ℕ) (deletes : List ℕ) : Type 0 where
  pub known : All (λ terminal. terminal < terminals) deletes
  pub once : AreDistinct (λ t u. t == u) deletes

-- bases of inputs
pub record AreBases (switches : ℕ) (bases : List PlanBase) : Type 0 where
  pub of_inputs : All (λ (b : PlanBase). IsSwitchPort switches b.port) bases
  pub ranges : All (λ (b : PlanBase). b.base < label_count) bases
  pub once : AreOncePerPort (λ (b : PlanBase). b.port) bases

-- rows of inputs
pub record AreRows (switches : ℕ) (rows : List PlanRow) : Type 0 where
  pub of_inputs : All (λ (r : PlanRow). IsSwitchPort switches r.port) rows
  pub ranges : All (λ (r : PlanRow). (r.limit ≤ label_count) × IsPlanSelect r.select) rows
  pub few : (p : Port) → length (rows_of p rows) ≤ ROWS

-- random headers of inputs
pub record AreRandoms (switches : ℕ) (randoms : List PlanRandom) : Type 0 where
  pub of_inputs : All (λ (r : PlanRandom). IsSwitchPort switches r.port) randoms
  pub ranges : All (λ (r : PlanRandom). (r.base < label_count) × (r.range ≤ label_count)) randoms
  pub once : AreOncePerPort (λ (r : PlanRandom). r.port) randoms

-- nothing is set at links by lines of their own: labellers do
pub record IsUnset (plan : Plan) : Type 0 where
  pub continues : plan.continues ≡ []
  pub bases : plan.bases ≡ []
  pub rows : plan.rows ≡ []
  pub randoms : plan.randoms ≡ []

-- nothing but groups is set at links by lines of their own: labellers set the rest
pub record HasGroupsAlone (plan : Plan) : Type 0 where
  pub bases : plan.bases ≡ []
  pub rows : plan.rows ≡ []
  pub randoms : plan.randoms ≡ []

-- how many labels terminals have in all
abbrev pub total_count : List Terminal → ℕ
total_count [] = 0
total_count (t ∷ terminals) = t.count + total_count terminals

-- a plan to be labelled from one of its switches, the root: its terminals carry counts alone
pub record IsTreePlan (root : ℕ) (plan : Plan) : Type 0 where
  pub inside : root < length plan.switches
  pub firsts : All (λ (t : Terminal). t.first ≡ 0) plan.terminals
  pub counts : total_count plan.terminals ≤ label_count
  pub unset : IsUnset plan

-- a root that is named is the number of one of n switches
abbrev pub IsNamedIn : ℕ → Option ℕ → Type 0
IsNamedIn n None = Unit {0}
IsNamedIn n (Some root) = root < n

-- a plan to be labelled up and down from one of its switches, which may be named: its terminals carry counts alone, and
-- links may be grouped
pub record IsUpDownPlan (root : Option ℕ) (plan : Plan) : Type 0 where
  pub inside : IsNamedIn (length plan.switches) root
  pub firsts : All (λ (t : Terminal). t.first ≡ 0) plan.terminals
  pub counts : total_count plan.terminals ≤ label_count
  pub unset : HasGroupsAlone plan

-- a plan of a layout whose switches have p terminals each
pub record IsFilled (layout : Layout) (p : ℕ) (plan : Plan) : Type 0 where
  pub switches : plan.switches ≡ filled_switches layout
  pub terminals : plan.terminals ≡ filled_terminals layout p
  pub wires : plan.wires ≡ filled_wires layout
  pub unset : IsUnset plan

-- what a plan keeps by its shape
abbrev pub IsOfShape : Shape → Plan → Type 0
IsOfShape Hand plan = Unit {0}
IsOfShape (Tree root) plan = IsTreePlan root plan
IsOfShape (UpDown root) plan = IsUpDownPlan root plan
IsOfShape (Mesh w h p) plan = IsMesh w h p × IsFilled (mesh w h) p plan
IsOfShape (Cube d p) plan = IsCube d p × IsFilled (cube d) p plan

-- what the type of a plan keeps
pub record IsPlan (plan : Plan) : Type 0 where
  pub header : (0 < plan.header) × (plan.header ≤ most_header_bytes)
  pub cap : IsTrue (is_buffer_size plan.cap)
  pub shape : IsOfShape plan.shape plan
  pub few_switches : length plan.switches ≤ most_switches
  pub names : AreNames (names plan.switches plan.terminals)
  pub terminals : AreTerminals (length plan.switches) plan.terminals
  pub wires : All (IsPlanWire (length plan.switches)) plan.wires
  pub links : AreDistinct is_port (linked_ports plan.terminals plan.wires)
  pub continues : AreContinues (length plan.switches) plan.continues
  pub deletes : AreDeletes (length plan.terminals) plan.deletes
  pub bases : AreBases (length plan.switches) plan.bases
  pub rows : AreRows (length plan.switches) plan.rows
  pub randoms : AreRandoms (length plan.switches) plan.randoms
