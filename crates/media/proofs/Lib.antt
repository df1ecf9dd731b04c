pub mod Laws
mod Vectors
mod Unique
