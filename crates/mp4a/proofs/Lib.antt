pub mod Mp4aLaws
mod Unique
mod Vectors
