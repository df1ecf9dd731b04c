pub mod Example
mod Unique
mod Vectors
