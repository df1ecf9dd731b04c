pub mod Firsts
pub mod KeyLaws
pub mod Picks
mod Unique
mod Vectors
