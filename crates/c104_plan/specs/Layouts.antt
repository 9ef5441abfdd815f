-- Layouts: networks in which all switches are alike. A layout says by a rule which links are joined, and so
-- which switches, terminals and wires a plan of it has.
use Rattle.c104_plan.specs.{Ports.{Port, Wire}, declared.plans.Terminal.Terminal}
use Rattle.std.specs.{Fmt.decimal, List.range_with_len, Prelude.{Bool, List, None, Option, Some, [], flat_map, if◌then◌else◌, map, nat_le}}
use Rattle.std.specs.Prelude.{nat_lt, suc, zero, ℕ, ◌%◌, ◌*◌, ◌+◌, ◌-◌, ◌/◌, ◌<◌, ◌==◌, ◌^◌, ◌∷◌, ◌≤◌}

-- how many switches there are; how many links of each, the first ones, are for other switches; where such a
-- link of a switch leads, if it is wired; and whether a wire begins at it, rather than ends
pub record Layout : Type 0 where
  pub switches : ℕ
  pub links : ℕ
  pub beyond : ℕ → ℕ → Option Port
  pub begins : ℕ → ℕ → Bool

-- the name of switch s: `s` (0x73) and its number
abbrev pub filled_name : ℕ → List ℕ
filled_name s = 0x73 ∷ decimal s

-- the switches of a layout, by number: each is its name, as of a plan
abbrev pub filled_switches : Layout → List (List ℕ)
filled_switches layout = map filled_name (range_with_len 0 layout.switches)

-- terminal t, where each switch has p of them, on the links from `links` on: its name is `t` (0x74) and its
-- number, and its one label is that number
abbrev pub filled_terminal : ℕ → ℕ → ℕ → Terminal
filled_terminal links p t = record {
  name = 0x74 ∷ decimal t;
  switch = t / p;
  link = links + t % p;
  first = t;
  count = 1;
}

-- the terminals of all switches, switch by switch
abbrev pub filled_terminals : Layout → ℕ → List Terminal
filled_terminals layout p = map (filled_terminal layout.links p) (range_with_len 0 (layout.switches * p))

-- the wire from a port to another, where there is one
abbrev pub wire_to : Port → Option Port → List Wire
wire_to here None = []
wire_to here (Some there) = record { here = here; there = there } ∷ []

-- the wire that begins at a link of a switch
abbrev pub wire_at : Layout → ℕ → ℕ → List Wire
wire_at layout s l = if layout.begins s l then wire_to (Port.Switch s l) (layout.beyond s l) else []

-- the wires that begin at a switch, by link
abbrev pub wires_from : Layout → ℕ → List Wire
wires_from layout s = flat_map (wire_at layout s) (range_with_len 0 layout.links)

-- all wires, switch by switch
abbrev pub filled_wires : Layout → List Wire
filled_wires layout = flat_map (wires_from layout) (range_with_len 0 layout.switches)

-- Meshes. A mesh of w columns and h rows has switch s in row s / w and column s % w. Link 0 goes to the row
-- above, 1 to the column before, 2 to the column after, and 3 to the row below, where there is such; the other
-- end is the neighbour's link for the opposite direction, and the lines of wires begin at links 2 and 3.

-- where link l of switch s of a mesh of w columns and h rows leads, if it is wired
abbrev pub mesh_beyond : ℕ → ℕ → ℕ → ℕ → Option Port
mesh_beyond w h s zero = if nat_le w s then Some (Port.Switch (s - w) 3) else None
mesh_beyond w h s (suc zero) = if nat_lt 0 (s % w) then Some (Port.Switch (s - 1) 2) else None
mesh_beyond w h s (suc (suc zero)) = if nat_lt (s % w + 1) w then Some (Port.Switch (s + 1) 1) else None
mesh_beyond w h s (suc (suc (suc zero))) = if nat_lt (s + w) (w * h) then Some (Port.Switch (s + w) 0) else None
mesh_beyond w h s (suc (suc (suc (suc l)))) = None

-- the layout of a mesh of w columns and h rows, whose switches have 4 links for other switches
abbrev pub mesh : ℕ → ℕ → Layout
mesh w h = record { switches = w * h; links = 4; beyond = mesh_beyond w h; begins = λ s l. nat_le 2 l }

-- the sizes of a mesh whose switches have p terminals each: at most 64 switches, for each as many links as it needs, and at most 256 labels
pub record IsMesh (w h p : ℕ) : Type 0 where
  pub wide : (0 < w) × (w ≤ 64)
  pub high : (0 < h) × (h ≤ 64)
  pub some : 0 < p
  pub links : p ≤ 28
  pub switches : w * h ≤ 64
  pub labels : w * h * p ≤ 256

-- Cubes. A cube of d dimensions has 2 ^ d switches. Link k leads to link k of the switch whose number differs
-- at bit k alone, and a wire's line begins where that bit is clear.

-- bit k of a number
abbrev pub bit : ℕ → ℕ → ℕ
bit x k = x / 2 ^ k % 2

-- where link k of switch x of a cube leads
abbrev pub cube_beyond : ℕ → ℕ → Option Port
cube_beyond x k = Some (Port.Switch (if bit x k == 0 then x + 2 ^ k else x - 2 ^ k) k)

-- the layout of a cube of d dimensions, all of whose links for other switches are wired
abbrev pub cube : ℕ → Layout
cube d = record { switches = 2 ^ d; links = d; beyond = cube_beyond; begins = λ x k. bit x k == 0 }

-- the sizes of a cube whose switches have p terminals each: at most 64 switches, for each as many links as it needs, and at most 256 labels
pub record IsCube (d p : ℕ) : Type 0 where
  pub low : d ≤ 6
  pub some : 0 < p
  pub links : p ≤ 26
  pub labels : 2 ^ d * p ≤ 256
