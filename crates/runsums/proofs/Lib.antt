pub mod Sums
mod Unique
