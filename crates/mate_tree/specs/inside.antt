pub mod Replies
pub mod Sheets
pub mod Writers
