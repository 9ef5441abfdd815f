pub mod PlanReading
mod DistinctPlaces
mod PrintedText
mod PrintedNumbers
mod PrintedPorts
pub mod FilledNames
pub mod FilledLinks
pub mod FilledSteps
pub mod ShapeJoins
pub mod PlanRooted
pub mod FilledKept
pub mod SharedKept
pub mod DraftsKept
pub mod PlanLinesKept
pub mod FaultOrder
pub mod MixedLast
pub mod PlanDue
mod LineWords
mod LineSteps
mod PrintedSteps
mod PrintedParts
mod PrintedWords
mod PrintedByHand
mod PrintedDeletes
mod CountedPlans
mod PrintedTrees
mod PrintedFills
mod PrintedPlans
mod PrintedShared
