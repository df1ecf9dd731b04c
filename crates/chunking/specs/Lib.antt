pub mod Chunking
pub mod Entries
