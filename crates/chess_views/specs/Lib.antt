pub mod Lines
pub mod Played
pub mod Boards
pub mod Looks
pub mod Listings
pub mod Counts
