pub mod Unopened
pub mod Within
