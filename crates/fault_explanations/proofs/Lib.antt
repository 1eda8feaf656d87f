mod Appended
pub mod Refusals
