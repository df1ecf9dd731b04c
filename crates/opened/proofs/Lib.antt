mod Place
mod Told
pub mod Judged
mod Unique
mod Vectors
