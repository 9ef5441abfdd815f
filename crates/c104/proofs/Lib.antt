pub mod EndedCommands
pub mod EndedRuns
pub mod EndedStorms
