pub mod Cases
pub mod Fills
pub mod Says
pub mod Back
pub mod Whole
pub mod Bytes
mod Vectors
mod Unique
