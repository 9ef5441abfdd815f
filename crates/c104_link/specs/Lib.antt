pub mod Steps
pub mod Buffers
