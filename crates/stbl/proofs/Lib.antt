pub mod Vectors
mod Unique
