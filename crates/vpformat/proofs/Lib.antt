pub mod SamplingLaws
mod Unique
mod Vectors
