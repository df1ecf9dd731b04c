mod Cases
mod Unique
mod Vectors
