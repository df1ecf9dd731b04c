pub mod Handlers
pub mod Entries
