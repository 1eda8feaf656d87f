pub mod OpenReplies
