pub mod Cases
pub mod Heads
pub mod Left
pub mod Views
pub mod Given
pub mod Sites
mod Vectors
mod Unique
