pub mod Limits
pub mod LineReplies
