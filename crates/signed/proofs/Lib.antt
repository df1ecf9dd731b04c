pub mod Signs
pub mod Fields
mod Vectors
mod Unique
