-- Further layouts: tori, folded Clos networks, and layouts each of whose wires is made several times; and which plan
-- such a layout gives.
use Rattle.{c104_describe.specs.declared.forms.Form.Form, c104_plan.specs.Layouts.{Layout, cube, filled_switches, filled_terminal}}
use Rattle.c104_plan.specs.{Layouts.{filled_wires, mesh}, PlanParts.without_first, Plans.{Plan, most_switches}}
use Rattle.c104_plan.specs.declared.{plans.{Shape.TheVariants.UpDown, Terminal.Terminal}, ports.Port.Port}
use Rattle.std.specs.{List.range_with_len, Prelude.{List, None, Option, Some, if◌then◌else◌, map, nat_le, nat_lt, suc, zero, ℕ, ◌%◌, ◌*◌}}
use Rattle.std.specs.Prelude.{◌+◌, ◌-◌, ◌/◌, ◌<◌, ◌≤◌}

-- Tori. A torus has the switches of a mesh and their links, but its first and last column are neighbours, and so are its
-- first and last row, unless there is only one.

-- where link l of switch s of a torus of w columns and h rows leads, if it is wired
abbrev pub torus_beyond : ℕ → ℕ → ℕ → ℕ → Option Port
torus_beyond w h s zero =
    if nat_lt 1 h then (if nat_le w s then Some (Port.Switch (s - w) 3) else Some (Port.Switch (s + w * h - w) 3)) else None
torus_beyond w h s (suc zero) =
    if nat_lt 1 w then (if nat_lt 0 (s % w) then Some (Port.Switch (s - 1) 2) else Some (Port.Switch (s + w - 1) 2)) else None
torus_beyond w h s (suc (suc zero)) =
    if nat_lt 1 w then (if nat_lt (s % w + 1) w then Some (Port.Switch (s + 1) 1) else Some (Port.Switch (s + 1 - w) 1)) else None
torus_beyond w h s (suc (suc (suc zero))) =
    if nat_lt 1 h then (if nat_lt (s + w) (w * h) then Some (Port.Switch (s + w) 0) else Some (Port.Switch (s + w - w * h) 0)) else None
torus_beyond w h s (suc (suc (suc (suc l)))) = None

-- the layout of a torus of w columns and h rows
abbrev pub torus : ℕ → ℕ → Layout
torus w h = record { switches = w * h; links = 4; beyond = torus_beyond w h; begins = λ s l. nat_le 2 l }

-- Folded Clos networks. The first m switches are leaves, and n more are spines. Link j of leaf i and link i of spine j are
-- joined, and the lines of wires begin at leaves.

abbrev pub clos_beyond : ℕ → ℕ → ℕ → ℕ → Option Port
clos_beyond m n s l =
    if nat_lt s m then (if nat_lt l n then Some (Port.Switch (m + l) s) else None)
    else (if nat_lt l m then Some (Port.Switch l (s - m)) else None)

-- the layout of a folded Clos network of m leaves and n spines
abbrev pub clos : ℕ → ℕ → Layout
clos m n = record {
  switches = m + n;
  links = if nat_le m n then n else m;
  beyond = clos_beyond m n;
  begins = λ s l. nat_lt s m;
}

-- Wires that are made several times

-- where the wire leads that begins at a link of a switch, if one does
abbrev pub begun : Layout → ℕ → ℕ → Option Port
begun layout s l = if layout.begins s l then layout.beyond s l else None

-- the far end of one of the k wires that stand for a wire, the one at this place
abbrev pub scaled : ℕ → ℕ → Option Port → Option Port
scaled k place None = None
scaled k place (Some (Port.Terminal t)) = None
scaled k place (Some (Port.Switch s l)) = Some (Port.Switch s (l * k + place))

-- the layout that has k wires for each one of another, from links l * k on where that has link l
abbrev pub parallel : ℕ → Layout → Layout
parallel k layout = record {
  switches = layout.switches;
  links = layout.links * k;
  beyond = λ s l. scaled k (l % k) (layout.beyond s (l / k));
  begins = λ s l. layout.begins s (l / k);
}

-- the layout of a form
abbrev pub layout_of : Form → Layout
layout_of (Form.Mesh w h) = mesh w h
layout_of (Form.Torus w h) = torus w h
layout_of (Form.Cube d) = cube d
layout_of (Form.Clos m n) = clos m n

-- a form of at most as many switches as there may be
abbrev pub IsForm : Form → Type 0
IsForm (Form.Mesh w h) = (0 < w) × (w * h ≤ most_switches)
IsForm (Form.Torus w h) = (0 < w) × (w * h ≤ most_switches)
IsForm (Form.Cube d) = d ≤ 6
IsForm (Form.Clos m n) = m + n ≤ most_switches

-- a port of a switch whose link's number is small
abbrev pub IsNear : Port → Type 0
IsNear (Port.Switch s l) = l ≤ most_switches
IsNear (Port.Terminal t) = ⊥

-- Plans

-- the terminals of the first switches, p of each, on their links from `first` on
abbrev pub hosted_terminals : ℕ → ℕ → ℕ → List Terminal
hosted_terminals hosts first p = map (filled_terminal first p) (range_with_len 0 (hosts * p))

-- the plan with the switches and wires of a layout and such terminals, which is to be labelled up and down from its first
-- switch: so its terminals carry counts alone
abbrev pub hosted_plan : Layout → ℕ → ℕ → ℕ → Plan → Plan
hosted_plan layout hosts first p plan = record plan {
  shape = UpDown (Some 0);
  switches = filled_switches layout;
  terminals = map without_first (hosted_terminals hosts first p);
  wires = filled_wires layout;
}
