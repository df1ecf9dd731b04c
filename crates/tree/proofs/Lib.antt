pub mod Rows
pub mod Walks
pub mod Forests
pub mod Order
pub mod Columns
pub mod All
mod Unique
mod Vectors
