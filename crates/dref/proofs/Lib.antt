pub mod DrefLaws
mod Unique
mod Vectors
