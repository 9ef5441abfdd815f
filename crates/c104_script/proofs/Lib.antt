pub mod FirstPart
mod FirstWord
pub mod ControlLine
pub mod HexNumbers
pub mod ResetRows
pub mod PartsLaw
pub mod ScriptBytes
pub mod DoneScripts
mod RowNumbers
pub mod RegisterLists
pub mod NamesRead
mod ProbeLists
pub mod TypedWords
