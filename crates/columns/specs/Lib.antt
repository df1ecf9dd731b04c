pub mod Columns
pub mod Entries
