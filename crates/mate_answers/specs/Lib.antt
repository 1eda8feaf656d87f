pub mod InputReplies
pub mod LimitedReplies
