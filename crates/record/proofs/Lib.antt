pub mod Laws
mod Cases
mod Columns
mod Vectors
mod Unique
