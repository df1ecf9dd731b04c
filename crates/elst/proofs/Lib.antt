pub mod ElstLaws
mod Unique
pub mod Edits
mod Vectors
