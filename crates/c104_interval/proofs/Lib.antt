pub mod SegmentLemmas
pub mod SelectionLemmas
