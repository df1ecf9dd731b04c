pub mod Rows
pub mod Counts
pub mod Stuck
pub mod Places
pub mod Flags
pub mod Numbers
pub mod Vectors
mod Unique
