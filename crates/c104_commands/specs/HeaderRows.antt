-- What `check --header --rows` prints of a network: by which links a header may leave, as the own one of packets and as a
-- random one, and which inputs are portals of it; and why it is refused, if it is.
--     AreHeaderRows routes h rows      a row for each link of which one of these holds, in order
--     PrintsHeader h plan image text refused
use Rattle.c104_check.specs.{Parts.{IsDiscardedAt, IsNeverRefused, IsTakenAsOwn, IsTakenAsRandom, TellsFirst}, Routes.{Routes, port_at}}
use Rattle.c104_check.specs.{Routes.{routes_of, to_port}, declared.faults.CheckFault.CheckFault}
use Rattle.{c104_commands.specs.{CheckTexts.check_fault_text, declared.header_rows.HeaderRow.HeaderRow}, c104_plan.specs.PlanImage.Image}
use Rattle.{c104_plan.specs.{Plans.Plan, PortTexts.port_text}, c104_regs.specs.declared.registers.TheConstants.LINKS}
use Rattle.std.specs.Prelude.{Bool, IsTrue, List, MatchOption, None, Option, Some, [], codes, false, filter, flat_map, is_some, length}
use Rattle.std.specs.Prelude.{slice_get, true, ℕ, ◌*◌, ◌++◌, ◌||◌, ◌↔◌, ◌≡◌}

-- what is told of a link is so
pub record IsHeaderRow (routes : Routes) (h : ℕ) (row : HeaderRow) : Type 0 where
  pub own : IsTrue row.own ↔ IsTakenAsOwn routes h row.port
  pub random : IsTrue row.random ↔ IsTakenAsRandom routes h row.port
  pub portal : IsTrue row.portal ↔ IsDiscardedAt routes h row.port

-- what is told of the first links, by switch and link
pub record AreLinkRows (routes : Routes) (h : ℕ) (links : ℕ) (rows : List HeaderRow) : Type 0 where
  pub each : length rows ≡ links
  pub right : (k : ℕ) (row : HeaderRow) → slice_get rows k ≡ Some row → (row.port ≡ port_at k) × IsHeaderRow routes h row

-- whether anything holds of a link
abbrev pub is_met_by : HeaderRow → Bool
is_met_by row = row.own || (row.random || row.portal)

-- of the first links those of which something does
abbrev pub AreRowsOf : Routes → ℕ → ℕ → List HeaderRow → Type 0
AreRowsOf routes h links rows = (all : List HeaderRow) × AreLinkRows routes h links all × (rows ≡ filter is_met_by all)

-- of all links of switches
abbrev pub AreHeaderRows : Routes → ℕ → List HeaderRow → Type 0
AreHeaderRows routes h rows = AreRowsOf routes h (length routes.settings * LINKS) rows

-- the line of a row: its link, and what holds of it
abbrev pub digit : Bool → List ℕ
digit false = codes "0"
digit true = codes "1"

abbrev pub row_text : Plan → HeaderRow → List ℕ
row_text plan row = port_text plan (to_port row.port)
    ++ (codes "," ++ (digit row.own ++ (codes "," ++ (digit row.random ++ (codes "," ++ (digit row.portal ++ codes "\r\n"))))))

-- the table of rows, with the names of its columns
abbrev pub table_text : Plan → List HeaderRow → List ℕ
table_text plan rows = codes "port,own,random,portal\r\n" ++ flat_map (row_text plan) rows

-- a text is the table of a header
abbrev pub IsTableOf : Plan → Routes → ℕ → List ℕ → Type 0
IsTableOf plan routes h text = (rows : List HeaderRow) × AreHeaderRows routes h rows × (text ≡ table_text plan rows)

-- the line of a fault, where there is one
abbrev pub fault_line : Plan → Option CheckFault → List ℕ
fault_line plan None = []
fault_line plan (Some why) = check_fault_text plan why

-- what it prints: the table, and behind it the line that tells why the header is refused, if it is at any terminal
pub record PrintsHeader (h : ℕ) (plan : Plan) (image : Image) (text : List ℕ) (refused : Bool) : Type 0 where
  pub rows : List HeaderRow
  pub are : AreHeaderRows (routes_of plan image) h rows
  pub why : Option CheckFault
  pub cause : MatchOption why (IsNeverRefused (routes_of plan image) h) (TellsFirst (routes_of plan image) h)
  pub is : text ≡ table_text plan rows ++ fault_line plan why
  pub refuses : refused ≡ is_some why
