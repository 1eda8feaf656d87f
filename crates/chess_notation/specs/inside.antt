pub mod RecordReading
pub mod Merging
