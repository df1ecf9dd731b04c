pub mod Written
pub mod Cells
pub mod Records
mod Vectors
mod Unique
