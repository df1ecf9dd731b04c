pub mod Laws
mod Signs
mod Vectors
mod Unique
