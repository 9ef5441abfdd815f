-- How the tables are found by which packets go up and then down: they are believed only after a check.
use Rattle.c104_check.specs.{ChannelDependencies.IsAcyclic, Routes.{IsAccepted, routes_of}}
use Rattle.c104_interval.specs.declared.intervals.{Row.Row, Select.{Select, TheVariants.{Discard, Link, Sink}}, Table.Table}
use Rattle.c104_plan.specs.{LabelledImages.port_labelled_image, PlanImage.{Fits, Image}, Plans.Plan}
use Rattle.c104_regs.specs.{Ranges.IsTableInRange, declared.registers.TheConstants.LINKS}
use Rattle.std.specs.Prelude.{All, Bool, List, false, length, nat_le, nat_lt, ℕ, ◌&&◌, ◌*◌, ◌≡◌}

-- a row selects a link of a switch, with a limit that registers can hold
abbrev pub is_link_row : Row → Bool
is_link_row row = selects_link row.select && nat_le row.limit 65536
  where
    selects_link : Select → Bool
    selects_link (Link link) = nat_lt link LINKS
    selects_link Discard = false
    selects_link Sink = false

-- a table for each link of a plan's switches, within the ranges of registers
pub record ArePortTables (plan : Plan) (tables : List Table) : Type 0 where
  pub count : length tables ≡ length plan.switches * LINKS
  pub within : All IsTableInRange tables

-- such a table for each link, and whether it continues a group
pub record ArePortLabels (plan : Plan) (tables : List Table) (flags : List Bool) : Type 0 where
  pub within : ArePortTables plan tables
  pub flagged : length flags ≡ length plan.switches * LINKS

-- each label comes to its terminal, and no inputs depend on one another in a cycle
pub record IsSound (plan : Plan) (image : Image) : Type 0 where
  pub accepted : IsAccepted (routes_of plan image)
  pub acyclic : IsAcyclic (routes_of plan image)

-- an image with the ranges of another, in which each port that has a wire has a table of its own, and links may be grouped
pub record IsRelabelled (plan : Plan) (ranges : Image) (image : Image) : Type 0 where
  pub tables : ℕ → ℕ → Table
  pub groups : ℕ → ℕ → Bool
  pub is : image ≡ port_labelled_image plan ranges.ranges tables groups
  pub fits : Fits image plan
  pub sound : IsSound plan image
