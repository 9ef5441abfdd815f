-- How many rows each input has, counted as they come.
use Rattle.c104_plan.{proofs.PortLemmas.{is_port-refl, is_port-true}, specs.{PlanIndex.{AreCounted, input_place}, Plans.PlanRow}}
use Rattle.c104_plan.specs.{Plans.{most_switches, rows_of}, Ports.{IsSwitchPort, Port, is_port}}
use Rattle.{c104_regs.specs.declared.registers.TheConstants.LINKS, std.proofs.Common.{Bool, List, [], append-nil, arith, cond, get_or}}
use Rattle.std.proofs.{Common.{length, length-append, replicate, set, ℕ, ◌*◌, ◌++◌, ◌+◌, ◌<◌, ◌∷◌, ◌≡◌}, lemmas.List.Elements.filter-append}
use Rattle.std.proofs.lemmas.List.{get_or-replicate, get_or-set_other, get_or-set_same, length-replicate, length-set}

-- each input has a place of its own, below how many there are
pub place_inside : (p : Port) → IsSwitchPort most_switches p → input_place p < most_switches * LINKS
place_inside p is = search arith

one_place : (p q : Port) → IsSwitchPort most_switches p → IsSwitchPort most_switches q → input_place p ≡ input_place q → p ≡ q
one_place p q is is' same = search arith

-- no row
pub counted_none : AreCounted (replicate (most_switches * LINKS) 0) []
unfolding rows_of
counted_none = (length-replicate {A = ℕ} (most_switches * LINKS) 0, λ p is. get_or-replicate (most_switches * LINKS) (input_place p) 0 0 (place_inside p is))

-- one more row: by whether an input is that of the row
module _ (counts : List ℕ) (rows : List PlanRow) (row : PlanRow) (counted : AreCounted counts rows) (of_input : IsSwitchPort most_switches row.port) where
  count_by : (p : Port) → IsSwitchPort most_switches p → (same : Bool) → is_port row.port p ≡ same → get_or (set counts (input_place row.port) (get_or counts (input_place row.port) 0 + 1)) (input_place p) 0 ≡ length (rows_of p rows ++ cond same (row ∷ []) [])
  count_by p is same differ =
      search (arith, place_inside, is_port-true, set, get_or-set_same, length-append, one_place, is_port-refl, get_or-set_other, append-nil)

  pub counted_next : AreCounted (set counts (input_place row.port) (get_or counts (input_place row.port) 0 + 1)) (rows ++ row ∷ [])
  unfolding rows_of
  counted_next = search (arith, length-set, count_by, filter-append)
