pub mod Picks
mod Unique
mod Vectors
