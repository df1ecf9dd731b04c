pub mod Laws
pub mod Bare
mod Looks
mod Bridge
mod Runs
mod Turns
mod Lanes
mod Walk
mod Vectors
mod Unique
