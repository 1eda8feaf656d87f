pub mod Labels
pub mod Mails
pub mod Placements
pub mod inside
