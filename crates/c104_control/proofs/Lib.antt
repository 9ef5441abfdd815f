pub mod ReadCommands
pub mod ReadReplies
