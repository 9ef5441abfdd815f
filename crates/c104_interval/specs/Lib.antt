pub mod Selection
pub mod Segments
