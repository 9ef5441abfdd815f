pub mod ValueLemmas
pub mod RangeLemmas
pub mod RangeNumbers
pub mod PackedLaws
pub mod PackedPokes
pub mod AddressLemmas
mod FreeTargets
pub mod RegisterLemmas
pub mod ContinueLemmas
pub mod PlacedRegisters
pub mod KeptEntries
pub mod KeptLemmas
mod KeptGaps
pub mod PlacedPokes
pub mod KeptPokes
pub mod SameSettings
