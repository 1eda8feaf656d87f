pub mod KindTests
pub mod Boards
pub mod Hashing
pub mod Walks
pub mod RankReading
pub mod Homes
