pub mod TkhdLaws
mod Unique
mod Vectors
