pub mod BoundSources
pub mod ClaimReplies
pub mod CountedLines
pub mod ListedKeys
pub mod MovesTested
pub mod TextBytes
pub mod UndecidedClaims
