pub mod Back
pub mod Vectors
mod Unique
