pub mod StcoLaws
mod Unique
mod Vectors
