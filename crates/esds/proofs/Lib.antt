pub mod Contents
pub mod Sounds
pub mod EsdsLaws
pub mod EsdsOwn
mod Unique
mod Vectors
