mod Cases
pub mod SetsLaws
mod Unique
mod Vectors
