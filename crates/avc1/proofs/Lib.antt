pub mod Avc1Laws
mod Unique
mod Vectors
