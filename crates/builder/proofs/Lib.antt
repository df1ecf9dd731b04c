pub mod Fills
pub mod Says
pub mod Back
pub mod Bytes
mod Vectors
mod Unique
