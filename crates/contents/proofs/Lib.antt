pub mod Helds
mod Unique
mod Vectors
