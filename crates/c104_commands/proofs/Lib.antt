pub mod LabelRefusals
mod ImageLines
pub mod ReadTexts
pub mod BootLemmas
mod KeptNames
mod ListLemmas
mod RowLemmas
pub mod WithoutKept
mod GroupLemmas
pub mod CommentLines
mod HeaderLemmas
mod LeftLemmas
