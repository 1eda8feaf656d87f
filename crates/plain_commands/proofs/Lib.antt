mod Shown
pub mod Unopened
mod Uncounted
mod Endings
