pub mod TextNumbers
pub mod Distinct
pub mod PortLemmas
pub mod PlanNames
pub mod NamesKept
pub mod PlanLinks
pub mod PlanRanges
pub mod RowCounts
pub mod PlanKept
pub mod TextBytes
-- plans of meshes and cubes
pub mod LayoutNumbers
pub mod LayoutJoins
pub mod RangeLists
-- what the wiring of a plan keeps: networks of the plan are proved over it
pub mod Wires
pub mod PlanTables
pub mod PlanSettings
pub mod NameText
pub mod KeptUpdates
pub mod SwitchImageSteps
pub mod ImageSteps
pub mod ImageMade
pub mod LabelledSettings
-- the plan by hand that has an image
pub mod SameSettings
pub mod RowPlanSteps
pub mod RowPlanKept
