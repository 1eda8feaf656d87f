pub mod InputLines
pub mod LinesFrom
