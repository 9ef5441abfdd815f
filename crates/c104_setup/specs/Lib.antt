pub mod Statuses
pub mod Setups
pub mod Endings
