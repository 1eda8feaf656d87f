pub mod LetterCounts
pub mod FirstTaken
pub mod DequeSteps
pub mod Openings
