pub mod Growing
mod FoundBytes
pub mod KnownReads
pub mod Prefixes
pub mod ScriptEnds
pub mod ScriptLines
pub mod ScriptSoFar
