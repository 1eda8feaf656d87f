pub mod GivenTexts
pub mod Files
