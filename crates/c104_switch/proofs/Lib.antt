-- The claims that inputs hold, groups by bits, readiness, what every switch
-- keeps, and what commands leave.
mod HeldClaims
mod HeldSteps
mod ClaimSteps
mod Owners
mod OwnersKept
mod GroupBits
mod Readiness
pub mod Wanting
mod LinkSets
mod KeptSets
mod KeptInputs
mod KeptSending
mod StreamSteps
mod SoundnessBuffers
mod SoundnessInputs
mod SoundnessTurns
mod Soundness
mod SoundnessMethods
mod SoundnessCommands
pub mod StartLinks
mod PokeSteps
mod Peeks
pub mod UnreadySteps
pub mod UnreadyClaims
pub mod UnreadyActions
pub mod ReasonsHold
