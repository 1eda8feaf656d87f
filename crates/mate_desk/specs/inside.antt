pub mod PlaceBits
pub mod HeldJobs
pub mod Keeping
pub mod Mirrors
pub mod Stepping
