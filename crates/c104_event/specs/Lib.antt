pub mod EventFaults
pub mod Calls
