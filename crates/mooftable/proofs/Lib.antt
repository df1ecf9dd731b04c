pub mod Stored
pub mod Back
pub mod Vectors
mod Unique
