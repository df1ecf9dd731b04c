pub mod Cases
pub mod Theorems
mod Vectors
mod Unique
