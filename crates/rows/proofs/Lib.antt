pub mod Cells
pub mod Moved
mod Unique
mod Vectors
