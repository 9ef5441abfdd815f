pub mod Walks
pub mod Takings
