pub mod InputLines
pub mod KeptLines
pub mod LineReplies
pub mod PassedLines
pub mod LinesTaken
pub mod WrittenReplies
