pub mod Cases
pub mod Laws
mod Unique
mod Vectors
