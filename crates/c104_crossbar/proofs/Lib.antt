pub mod BitMarks
pub mod GroupLemmas
pub mod GroupScans
pub mod MarkLemmas
