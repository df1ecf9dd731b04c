mod Unique
pub mod TrexLaws
mod Vectors
