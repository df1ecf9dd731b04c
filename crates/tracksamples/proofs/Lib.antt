pub mod Numbers
pub mod One
mod Cases
mod Vectors
mod Unique
