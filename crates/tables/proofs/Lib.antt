pub mod Lists
pub mod Cases
pub mod Lengths
pub mod Flags
pub mod Vectors
mod Unique
