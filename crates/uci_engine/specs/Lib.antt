pub mod SearchLines
