pub mod Steps
mod Unique
mod Vectors
