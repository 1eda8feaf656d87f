pub mod DividedCounts
pub mod Pieces
pub mod PlayedSteps
