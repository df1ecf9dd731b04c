pub mod AvccLaws
pub mod Cases
mod Puts
mod Unique
mod Vectors
