pub mod Unopened
pub mod SeveralFiles
