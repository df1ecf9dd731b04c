pub mod Recorded
mod Gather
pub mod Answers
mod Times
pub mod Clean
mod Computed
mod Unique
mod Vectors
