mod Back
mod Few
mod Filling
mod Fit
pub mod Laws
mod Left
mod Steps
mod Unique
mod Vectors
