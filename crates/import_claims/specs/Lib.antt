pub mod ImportedRows
pub mod VerifiedImports
