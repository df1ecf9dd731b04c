pub mod Steps
pub mod Vectors
mod Unique
