pub mod Laws
mod Unique
mod Vectors
