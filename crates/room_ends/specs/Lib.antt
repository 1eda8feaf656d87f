pub mod Letters
pub mod DequeRule
pub mod Orders
pub mod Benches
pub mod WindowFaults
pub mod Windows
pub mod WindowRings
pub mod Opening
