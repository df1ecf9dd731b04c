pub mod Signs
pub mod Vectors
mod Unique
