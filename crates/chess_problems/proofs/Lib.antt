pub mod SameMoves
pub mod SameProblems
