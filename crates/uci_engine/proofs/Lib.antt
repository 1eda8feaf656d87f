pub mod SearchLines
pub mod WrittenLines
