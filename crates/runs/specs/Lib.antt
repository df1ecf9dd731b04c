pub mod Values
pub mod Samples
pub mod Lane
