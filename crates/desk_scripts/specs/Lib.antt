pub mod Scripts
pub mod inside
