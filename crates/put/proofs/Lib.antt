pub mod Stores
pub mod Placed
pub mod Laws
mod Unique
mod Vectors
