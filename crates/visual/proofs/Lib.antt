pub mod VisualLaws
mod Unique
mod Vectors
