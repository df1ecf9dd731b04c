mod Unique
mod Vectors
