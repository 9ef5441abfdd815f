pub mod Work
pub mod HeaderWork
pub mod BlockedInputs
pub mod DeadlockFreedom
pub mod FairWaits
