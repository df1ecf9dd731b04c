mod Unique
pub mod Co64Laws
mod Vectors
