mod HeldFiles
mod OpenedFiles
mod Opened
mod KeptBytes
mod Parts
pub mod AnsweredFiles
pub mod Unopened
