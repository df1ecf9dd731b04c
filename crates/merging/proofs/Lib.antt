pub mod Steps
pub mod Fewest
pub mod Rows
mod Vectors
mod Unique
