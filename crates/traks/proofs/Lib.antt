pub mod Laws
mod Tells
mod Unique
mod Vectors
