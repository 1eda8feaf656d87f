pub mod JsonFiles
pub mod Solved
pub mod Told
pub mod Verified
