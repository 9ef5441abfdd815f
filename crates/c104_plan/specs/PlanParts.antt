-- The parts in which a plan is kept, and what may be asked of a plan while it is made.
use Rattle.c104_plan.specs.{Plans.{Plan, Terminal}, declared.{parts.Parts.Parts, plans.Shape.TheVariants.Hand}}
use Rattle.std.specs.Prelude.{Bool, List, [], length, not, ◌==◌, ◌||◌}

-- the plan that they are
abbrev pub plan_of : Parts → Plan
plan_of parts = record {
  header = parts.header;
  cap = parts.cap;
  shape = parts.shape;
  switches = parts.switches;
  terminals = parts.terminals;
  wires = parts.wires.items;
  continues = parts.continues.items;
  deletes = parts.deletes.items;
  bases = parts.bases.items;
  rows = parts.rows;
  randoms = parts.randoms.items;
}

-- a terminal of which only the count is said
abbrev pub without_first : Terminal → Terminal
without_first t = record t { first = 0 }

-- whether a list has elements
abbrev pub has_some : {X : Type 0} → List X → Bool
has_some xs = not (length xs == 0)

-- whether a plan has lines that set more at links than that they continue groups
abbrev pub has_tables : Plan → Bool
has_tables plan = has_some plan.bases || (has_some plan.rows || has_some plan.randoms)

-- the plan of no line: headers of one byte, and buffers of 16 tokens
abbrev pub empty_plan : Plan
empty_plan = record {
  header = 1;
  cap = 16;
  shape = Hand;
  switches = [];
  terminals = [];
  wires = [];
  continues = [];
  deletes = [];
  bases = [];
  rows = [];
  randoms = [];
}
