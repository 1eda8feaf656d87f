pub mod Steps
pub mod Submitters
pub mod Threads
