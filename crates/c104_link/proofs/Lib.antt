-- Laws of steps, for the crates above: a step of one element of a list as a step of the list, and what a
-- step that was made says of what it leaves.
pub mod Lifts
pub mod MadeSteps
