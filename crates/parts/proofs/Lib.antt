mod Ends
mod Vectors
mod Unique
