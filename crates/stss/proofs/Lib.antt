pub mod StssLaws
mod Unique
mod Vectors
