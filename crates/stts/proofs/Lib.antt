pub mod SttsLaws
mod Unique
mod Vectors
