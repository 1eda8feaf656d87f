mod FirstLines
mod SourcedRows
mod ReadRecords
mod Unopened
mod VerifiedFiles
mod HeadedRows
