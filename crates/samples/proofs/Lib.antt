pub mod Fits
pub mod Views
pub mod Complement
pub mod Stored
pub mod Unique
pub mod Vectors
