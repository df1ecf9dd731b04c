pub mod Laws
pub mod Held
pub mod Agreed
pub mod Vectors
pub mod Unique
