-- A network without one of the wires between its switches: what is left of the groups that the wire's links were in.
--     without_wire plan k      the plan by hand without wire k, whose links are taken out of their groups
-- A group is a run of consecutive links. So what is left of it is one run where the link was its first or its last, and
-- else two: the links below, and those above. A row that selects one of these selects the run that it is in now. One that
-- selects the link itself selects the run below it, or that above where there is none below. Where the link was a group by
-- itself nothing is left, and such a row leads nowhere.
use Rattle.{c104_interval.specs.declared.intervals.Select.{Select, TheVariants.{Discard, Link, Sink}}, c104_plan.specs.Plans.Plan}
use Rattle.c104_plan.specs.{Plans.is_continued, Ports.{is_of_switch, is_port}, declared.plans.{PlanRow.PlanRow, Shape.TheVariants.Hand}}
use Rattle.{c104_plan.specs.declared.ports.{Port.Port, Wire.Wire}, c104_regs.specs.declared.registers.TheConstants.LINKS}
use Rattle.std.specs.{List.remove, Prelude.{Bool, List, None, Option, Some, filter, if◌then◌else◌, map, nat_lt, not, slice_get, suc, ℕ}}
use Rattle.std.specs.Prelude.{◌&&◌, ◌-◌, ◌==◌, ◌||◌}

-- the link after one of a switch
abbrev pub link_after : Port → Port
link_after (Port.Switch s l) = Port.Switch s (suc l)
link_after (Port.Terminal t) = Port.Terminal t

-- that link p continues a group joins it to this link of a switch: it is the link itself, or the one after it
abbrev pub joins : Port → Port → Bool
joins link p = is_port p link || is_port p (link_after link)

-- which link stands for what is left of the group of link l of switch s: the one before it, if they were in one group,
-- else the one after it, if those were; and where the link was a group by itself none but itself
abbrev pub other_link : Plan → ℕ → ℕ → ℕ
other_link plan s l =
    if nat_lt 0 l && is_continued plan (Port.Switch s l) then l - 1
    else (if nat_lt (suc l) LINKS && is_continued plan (Port.Switch s (suc l)) then suc l
    else l)

-- what a row of switch s selects, once link l is out of its group
abbrev pub select_past : Plan → ℕ → ℕ → Select → Select
select_past plan s l (Link g) = if g == l then Link (other_link plan s l) else Link g
select_past plan s l Discard = Discard
select_past plan s l Sink = Sink

-- a row, once a link is out of its group
abbrev pub row_past : Plan → Port → PlanRow → PlanRow
row_past plan (Port.Switch s l) row =
    if is_of_switch s row.port then record row { select = select_past plan s l row.select } else row
row_past plan (Port.Terminal t) row = row

-- the rows, once both ends of a wire are
abbrev pub rows_past : Plan → Wire → List PlanRow → List PlanRow
rows_past plan w rows = map (λ row. row_past plan w.there (row_past plan w.here row)) rows

-- and the links that still continue groups
abbrev pub continues_past : Wire → List Port → List Port
continues_past w continues = filter (λ p. not (joins w.here p || joins w.there p)) continues

-- the plan without its wire of number k, which is w
abbrev pub without : Plan → ℕ → Wire → Plan
without plan k w = record plan {
  shape = Hand;
  wires = remove plan.wires k;
  continues = continues_past w plan.continues;
  rows = rows_past plan w plan.rows;
}

-- the plan without its wire of number k, if it has one
unfoldable pub without_wire : Plan → ℕ → Plan
without_wire plan k = at (slice_get plan.wires k)
  where
    at : Option Wire → Plan
    at None = plan
    at (Some w) = without plan k w
