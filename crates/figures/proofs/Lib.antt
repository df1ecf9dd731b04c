pub mod Rates
mod Vectors
mod Unique
