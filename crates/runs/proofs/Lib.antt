pub mod Steps
pub mod Left
pub mod Views
pub mod Vectors
mod Unique
