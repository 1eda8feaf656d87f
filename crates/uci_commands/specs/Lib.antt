pub mod GoCommands
pub mod Marks
pub mod MoveSearches
pub mod OptionCommands
pub mod PositionCommands
pub mod inside
