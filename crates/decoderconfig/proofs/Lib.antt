pub mod Configs
pub mod Puts
pub mod ConfigLaws
pub mod ConfigOwn
mod Unique
mod Vectors
