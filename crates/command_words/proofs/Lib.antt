mod Capped
mod Escapes
mod JoinedWords
mod Numbers
pub mod OnLiterals
mod Parsed
mod Tables
