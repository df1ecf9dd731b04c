pub mod Sums
pub mod Walk
pub mod Spans
mod Vectors
mod Unique
