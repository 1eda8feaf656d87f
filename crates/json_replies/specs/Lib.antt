pub mod Answers
pub mod Cuts
pub mod Moves
pub mod Replies
pub mod Rows
pub mod Strings
pub mod Trees
