pub mod AddedLines
pub mod EscapedTexts
pub mod Numbered
pub mod ProblemsInTurn
pub mod TextsInTurn
pub mod ShapeLetters
