pub mod InTime
pub mod Talking
