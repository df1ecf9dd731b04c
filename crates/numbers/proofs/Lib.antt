pub mod Laws
pub mod Chain
pub mod Table
mod Vectors
mod Unique
