pub mod StsdLaws
mod Unique
mod Vectors
