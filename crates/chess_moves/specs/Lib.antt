pub mod Verdicts
pub mod GivesCheck
pub mod Plays
pub mod Laws
pub mod Escapes
pub mod inside
