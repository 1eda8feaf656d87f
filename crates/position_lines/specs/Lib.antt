pub mod LineFens
pub mod PositionReplies
