pub mod Laws
mod Frequency
mod Vectors
mod Unique
