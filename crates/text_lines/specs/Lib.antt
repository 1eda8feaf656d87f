pub mod Lines
pub mod LinesFrom
pub mod Refusals
pub mod Replies
pub mod TakenLines
pub mod Writers
pub mod inside
