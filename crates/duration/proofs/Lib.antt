mod Vectors
mod Unique
