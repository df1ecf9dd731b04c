pub mod Quotient
pub mod Exact
mod Cases
mod Vectors
mod Unique
