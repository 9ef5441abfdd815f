pub mod Tokens
pub mod Kinds
pub mod Packets
pub mod Cut
pub mod Faults
pub mod Text
