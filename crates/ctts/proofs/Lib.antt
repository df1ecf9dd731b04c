mod Unique
pub mod CttsLaws
mod Vectors
