pub mod Parts
pub mod Entries
pub mod Cases
pub mod Theorems
mod Vectors
mod Unique
