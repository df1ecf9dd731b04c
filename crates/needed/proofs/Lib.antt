mod Firsts
pub mod Lacks
mod Unique
mod Vectors
