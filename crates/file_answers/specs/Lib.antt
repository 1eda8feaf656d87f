pub mod Sources
pub mod OpenedFiles
pub mod Writing
pub mod Status
pub mod FileAnswers
pub mod inside
