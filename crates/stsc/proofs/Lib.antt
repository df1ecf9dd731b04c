mod Unique
pub mod StscLaws
mod Vectors
