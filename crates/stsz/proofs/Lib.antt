pub mod StszLaws
mod Unique
pub mod Sizes
mod Vectors
