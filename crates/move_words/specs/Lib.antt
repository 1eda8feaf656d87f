pub mod Languages
pub mod Letters
pub mod Places
pub mod Parts
pub mod Patterns
pub mod Naming
pub mod inside
