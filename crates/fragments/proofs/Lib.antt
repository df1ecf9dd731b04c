pub mod Cases
pub mod Left
pub mod Views
pub mod Vectors
mod Unique
