pub mod Walk
pub mod Puts
pub mod Laws
pub mod Lies
pub mod Own
mod Unique
mod Vectors
