pub mod CalmNets
pub mod DeliveredNets
pub mod FoundPackets
pub mod CalmFabrics
