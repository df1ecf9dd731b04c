pub mod Laws
mod Steps
mod Unique
mod Vectors
