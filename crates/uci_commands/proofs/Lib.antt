pub mod MovesKept
pub mod NamesAlike
pub mod NumberValues
pub mod PositionsSaid
pub mod WordTexts
pub mod WordsBehind
