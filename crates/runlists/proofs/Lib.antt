pub mod Steps
pub mod Vectors
pub mod Unique
