pub mod Zeros
pub mod Pass
pub mod Vectors
mod Unique
