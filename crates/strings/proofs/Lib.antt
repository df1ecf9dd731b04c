mod Search
mod Vectors
mod Unique
