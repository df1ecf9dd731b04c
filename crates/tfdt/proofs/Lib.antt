mod Vectors
mod Unique
pub mod TfdtLaws
