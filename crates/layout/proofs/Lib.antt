pub mod Cases
pub mod Rests
pub mod Exact
pub mod Tables
pub mod Writes
mod Unique
mod Vectors
