mod Vectors
mod Unique
pub mod TfhdLaws
