pub mod TakenCounts
pub mod NumberSteps
pub mod StillNets
mod WiredSteps
mod Searches
