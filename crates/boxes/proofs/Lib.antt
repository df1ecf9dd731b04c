pub mod Within
pub mod Written
pub mod Rounds
mod Unique
mod Vectors
