mod Unopened
mod VerifiedFiles
mod HeadedRows
