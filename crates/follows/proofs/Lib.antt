pub mod Steps
pub mod Walked
pub mod Laws
pub mod Vectors
mod Unique
