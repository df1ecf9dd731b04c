pub mod Places
pub mod Visits
mod Unique
mod Vectors
