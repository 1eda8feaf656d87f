pub mod Problems
pub mod Outcomes
pub mod SameProblems
