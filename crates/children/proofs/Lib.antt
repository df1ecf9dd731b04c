pub mod Turns
pub mod Laws
pub mod Example
mod Unique
mod Vectors
