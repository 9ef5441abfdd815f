mod CopiedSettings
pub mod ReadBacks
mod SetSteps
mod SettingsRead
