pub mod Starts
mod Vectors
mod Unique
