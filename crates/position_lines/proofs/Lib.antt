pub mod FenLines
pub mod PositionLines
