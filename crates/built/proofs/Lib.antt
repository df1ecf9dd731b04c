pub mod Joins
pub mod Given
pub mod Fits
pub mod Bounds
pub mod Tells
pub mod Boxes
pub mod Readings
pub mod Stored
pub mod Empty
pub mod Judged
pub mod Heads
pub mod Written
mod Vectors
pub mod Find
pub mod Longer
pub mod Told
mod Unique
