pub mod Befores
mod Kins
mod Unique
mod Vectors
