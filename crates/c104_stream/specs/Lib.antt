pub mod Reading
pub mod ScriptLines
pub mod Scripts
pub mod Writing
pub mod Halts
